use Rattle.std.proofs.{Common.arith, lemmas.List.drop_all}
use Rattle.mh_size_runs.proofs.LiveLemmas.{found-all, found-first, found-noted}
use Rattle.mh_size_runs.proofs.live.look_through.Goals as goal

pub loop-event-init : goal.loop-event-init
loop-event-init g c = record { done = omega arith; old = c.read-old.ensures; found = found-first c.args.machine.now.machine c.args.events.now }

pub loop-event-preserved : goal.loop-event-preserved
loop-event-preserved g c = record {
  done = omega (arith, c.in_ok-step_in_room.ensures.step.done, c.loop-event.invariant.done);
  old = c.read-new.ensures;
  found = found-noted _ _ _ _ _ _ _ _ _ _ _ _ _ c.loop-event-test.true c.in_ok-step_in_room.ensures.step.step c.loop-event.invariant.old c.read-new.ensures c.with-quarter.ensures.most c.with-quarter.ensures.whole c.loop-event.invariant.found;
}

pub returns-clause-most : goal.returns-clause-most
returns-clause-most g c = let (most, whole, after) = found-all _ _ _ _ _ _ (drop_all _ _ c.loop-event-test.false) c.loop-event.invariant.found in most

pub returns-clause-whole : goal.returns-clause-whole
returns-clause-whole g c = let (most, whole, after) = found-all _ _ _ _ _ _ (drop_all _ _ c.loop-event-test.false) c.loop-event.invariant.found in whole

pub returns-clause-after : goal.returns-clause-after
returns-clause-after g c = let (most, whole, after) = found-all _ _ _ _ _ _ (drop_all _ _ c.loop-event-test.false) c.loop-event.invariant.found in after

pub returns-clause-done : goal.returns-clause-done
returns-clause-done g c = omega (arith, c.loop-event.invariant.done, c.loop-event-test.false, c.loop-event.auto.event-index-end)
