-- What a handle of C owns: nothing where its pointer is null, and else a box.
use base.Fml.{Fml, ftrue, ffalse}
use denote.RawPtr.{Ptr, block_ptr, null_ptr}
use Rattle.std.specs.{Box.Ownership.box_owns, declared.alloc.Global.Global, declared.option.Option.Option}
use Rattle.std.specs.{declared.option.Option.TheVariants.{None, Some}, contracts.impls.GlobalAllocator.TheImpl.ghosts}
use Rattle.mh_embed.specs.contracts.embedded.Embedded.{the_row}

-- what a handle keeps
abbrev pub Kept : Type 0
Kept = the_row.Denot

-- a pointer owns what its handle keeps: nothing if it is null, and else a box
abbrev pub handle_owns : Global → Ptr → Option Kept → Fml
handle_owns a null_ptr None = ftrue
handle_owns a null_ptr (Some x) = ffalse
handle_owns a (block_ptr b o) None = ffalse
handle_owns a (block_ptr b o) (Some x) = box_owns (ghosts.dealloc_token a) the_row (block_ptr b o) x
