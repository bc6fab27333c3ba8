-- From the machine's step to what is shown.
use Rattle.std.proofs.Common.{◌≡◌, ℕ, ◌≤◌, refl, sym, ap, ◌∙◌, subst}
use Rattle.mh_model.specs.{declared.command.Command.Command, declared.reply.Reply.Reply}
use Rattle.mh_model.specs.{World.{Answer, says, heap_step}, Mutator.HeapState, View.heap_view}
use Rattle.mh_run_laws.specs.Following.{has_no_place}
use Rattle.mh_heap.specs.Shown.{ShowsCommand, ShowsQuantum}
use Rattle.mh_paged.specs.{Kept.Steps, Lawful.{IsLawful, IsQuantum, showing}}

-- a command of the machine shows what it should
pub commands_shown : (old new : HeapState) → IsLawful old → (who : ℕ) (command : Command) (reply : Reply) → Steps old who command reply new → ShowsCommand (showing old) who command reply (showing new)
commands_shown old new told who command reply steps =
    let follows = told.follows who command in
    let replied : (heap_step (has_no_place old) (heap_view old) who command).reply ≡ reply = sym follows.reply ∙ ap (λ (a : Answer HeapState). a.reply) steps in
    let left : (heap_step (has_no_place old) (heap_view old) who command).state ≡ heap_view new = sym follows.state ∙ ap (λ (a : Answer HeapState). heap_view a.state) steps in
    record {
      step = ap (λ r. says r (heap_step (has_no_place old) (heap_view old) who command).state) replied ∙ ap (says reply) left;
      number = sym (ap (λ (a : Answer HeapState). a.state.collector.cycle) steps) ∙ told.cycle who command;
      limit = sym (ap (λ (a : Answer HeapState). a.state.config.quantum) steps) ∙ ap (λ c. c.quantum) (told.config who command);
    }

-- and so does a quantum
pub quanta_shown : (old new : HeapState) (spent : ℕ) → IsLawful old → IsQuantum old spent new → ShowsQuantum (showing old) spent (showing new)
quanta_shown old new spent told is =
    subst (λ heap. ShowsQuantum (showing old) spent (showing heap)) (sym is.state) (record {
      view = told.agrees;
      spent = subst (λ units. units ≤ old.config.quantum) (sym is.units) told.limit;
      number = told.number;
      one = told.one;
      limit = refl;
    })
