-- What a handle owns may be used by another thread, as a box may.
use mir.Raw.{raw}
use base.Shift.{Keyless}
use denote.Memory.{lone}
use denote.RawPtr.{Ptr, block_ptr, null_ptr}
use denote.Struct.Struct.{exits_of}
use denote.Struct.Owning.{shape, fields, to}
use denote.Param.Send.{IsSend, AllSend, owning_send, struct_send, sendable}
use Rattle.std.specs.declared.{alloc.Global.Global, option.Option.Option, option.Option.TheVariants.{None, Some}}
use Rattle.std_alloc.proofs.SendSync.{quiet, lies}
use Rattle.mh_embed.proofs.embedded.Embedded.TheSendSync.{the_send as embedded}
use Rattle.metroheap_c.specs.{Held.{Kept, handle_owns}, contracts.handle.Handle.{the_row, the_type}}
use Rattle.std.proofs.Crossing as heap
use Rattle.std_heap.proofs.Global.TheSendSync as handle
use Rattle.mh_embed.specs.contracts.embedded.Embedded as Embedded

keyless : (a : Global) (p : Ptr) (v : Option Kept) → Keyless (handle_owns a p v)
keyless a null_ptr None = tt
keyless a (block_ptr b o) (Some x) = (lies Embedded.the_row embedded (block_ptr b o) x, heap.frees.frees a (raw (lone Embedded.the_row.mir)) (block_ptr b o))
keyless a at kept = tt

pub send : IsSend the_row
send =
    let all : AllSend (fields the_type) = (search sendable, (handle.the_field_send, tt)) in
    owning_send the_type all (λ d. keyless d.alloc d.at d.value)
    (λ k. quiet (to the_type) (exits_of k (fields the_type)) ((struct_send (shape the_type) all).leaving k))
