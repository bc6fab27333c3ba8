use Rattle.std.proofs.Common.{◌∙◌, ap, arith, sym}
use Rattle.mh_machine.specs.Running.{Running}
use Rattle.mh_window_curve.proofs.RunLemmas.{after_all, after_none, after_one}
use Rattle.mh_window_curve.proofs.script.machine_after.Goals as goal

pub loop-event-init : goal.loop-event-init
loop-event-init g c = record {
  machine = ap (λ (r : Running). r.machine) c.in_ok-machine.ensures ∙ after_none _;
  count = ap (λ (r : Running). r.done) c.in_ok-machine.ensures;
}

pub loop-event-preserved : goal.loop-event-preserved
loop-event-preserved g c = record {
  machine = after_one _ _ _ _ _ _ c.loop-event-test.true c.loop-event.invariant.machine (sym (ap (λ a. a.state) c.in_ok-step_in_room.ensures.step.step));
  count = omega (arith, c.in_ok-step_in_room.ensures.step.done, c.loop-event.invariant.count);
}

pub returns-clause-machine : goal.returns-clause-machine
returns-clause-machine g c = after_all _ _ _ _ c.loop-event-test.false c.loop-event.invariant.machine
