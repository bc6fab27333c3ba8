-- What making the parts of an object keeps.
use Rattle.std.proofs.Common.{◌≡◌, ℕ, List, [], length, Some, Result, Ok, Err, IfOk, OnOk, OnErr, sym, ap, subst}
use Rattle.mh_model.specs.{declared.config.Config.Config, declared.reply.Refusal.Refusal}
use Rattle.mh_model.specs.{Deeds.{Adds, DeedLog, make_deeds, new_deeds}, Mutator.HeapState, declared.cycle.Phase.Phase}
use Rattle.mh_model.specs.{Classes.{Part, parts}, Pages.Table, Table.{Block, made_group}}
use Rattle.mh_model.specs.declared.command.Command.{Command}
use Rattle.mh_deeds.specs.Logs.{Has, Told}
use Rattle.mh_deeds.proofs.LogLemmas.{adds-none, told-adds}
use Rattle.mh_heap.specs.Outcome.{done_or}
use Rattle.mh_grey.specs.Queue.{Queue}
use Rattle.mh_laws.specs.Tables.{MakingKeepsThePages}
use Rattle.mh_cycle.specs.Auxiliary.{IsFramed}
use Rattle.mh_cycle.proofs.FrameLemmas.{framed-long}

pub framed-made : MakingKeepsThePages → (config : Config) (old new : Table Block) (phase : Phase) (cursor : ℕ) (grey : Queue) (birth stamp references numbers : ℕ) (all : List Part) → all ≡ parts references numbers → {E : Type 0} (result : Result ℕ E) → IsFramed config old phase cursor grey
    → IfOk result (λ place. made_group old birth stamp all ≡ Some (record { place = place; table = new })) → OnErr result (new ≡ old) → IsFramed config new phase cursor grey
framed-made law config old new phase cursor grey birth stamp references numbers all is {E} (Ok place) frame made unchanged =
    let long = (law old birth stamp references numbers (record { place = place; table = new }) (subst (λ l. made_group old birth stamp l ≡ Some (record { place = place; table = new })) is made)).pages in
    framed-long config old new phase cursor grey frame long
framed-made law config old new phase cursor grey birth stamp references numbers all is {E} (Err full) frame made unchanged = framed-long config old new phase cursor grey frame (ap length unchanged)

-- what a new object tells: its parts, or nothing if it is refused
pub new-tells : (heap : HeapState) (slot references numbers : ℕ) (old new : DeedLog) (outcome : Result (Unit {0}) Refusal) → OnOk outcome (Told Has old (make_deeds heap.collector.table heap.next_birth heap.collector.cycle 0 (parts references numbers)) new) → OnErr outcome (new ≡ old)
    → Adds old (new_deeds heap (Command.New slot references numbers) (done_or outcome)) new
new-tells heap slot references numbers old new (Ok done) told quiet = told-adds old new _ told
new-tells heap slot references numbers old new (Err refusal) told quiet = subst (λ log. Adds old [] log) (sym quiet) (adds-none old)
