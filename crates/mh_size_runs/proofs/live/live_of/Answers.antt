use Rattle.std.proofs.Common.{◌≡◌, ◌∙◌, ap, sym, subst, Option, IsSomeAnd}
use Rattle.mh_machine.specs.Running.{Running}
use Rattle.mh_model.specs.{declared.config.Config.Config, Machine.{Machine, first_machine, machine_after}}
use Rattle.mh_model.specs.Trace.{mutator_count}
use Rattle.mh_size_runs.specs.Live.{AreQuartersFrom, IsSeenLive}
use Rattle.mh_size_runs.proofs.live.live_of.Goals as goal

pub returns : goal.returns
returns g c =
    let events = c.args.events.now in
    let heap = c.widest.result in
    let after : c.quarters.new.machine.machine ≡ machine_after (first_machine heap) events = c.in_ok-quarters.ensures.after ∙ ap (λ (r : Running). machine_after r.machine events) c.in_ok-machine.ensures in
    subst (λ (o : Option Config). IsSomeAnd o (λ h. IsSeenLive h events (record { quarters = c.in_ok-quarters.quarters; units = c.mutator_count.result; objects = c.births.result }))) (sym c.widest.ensures)
    (record {
      quarters = subst (λ (r : Running). AreQuartersFrom r.machine events c.in_ok-quarters.quarters) c.in_ok-machine.ensures c.in_ok-quarters.ensures.quarters;
      units = c.mutator_count.ensures ∙ ap (λ t. mutator_count t.letters) c.trace.ensures ∙ ap (λ (m : Machine). mutator_count m.trace.letters) after;
      objects = c.births.ensures ∙ ap (λ h. h.next_birth) c.heap.ensures ∙ ap (λ (m : Machine). m.heap.next_birth) after;
    })
