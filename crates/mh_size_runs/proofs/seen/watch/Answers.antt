use Rattle.std.proofs.{Common.{ap, sym, subst, Result, Ok, Err, arith}, lemmas.List.drop_all}
use Rattle.std.specs.Prelude.{OnOk}
use Rattle.mh_laws.proofs.bounds.CyclesInTime.{StaysInBounds}
use Rattle.mh_machine.specs.Running.{Running}
use Rattle.mh_model.specs.Limits.{most_entries}
use Rattle.mh_size_runs.specs.{declared.sample.Sample.Sample, Auxiliary.ended_between}
use Rattle.mh_size_runs.proofs.BoundLemmas.{few_quanta, in_time, stays-first, stays-more}
use Rattle.mh_size_runs.proofs.SeenLemmas.{HasSeen, after-all, facts-all, one_at_most, seen-first, seen-noted}
use Rattle.mh_size_runs.proofs.seen.watch.Goals as goal

pub read-before-requires : goal.read-before-requires
read-before-requires g c = in_time c.args.config.now _ (subst (λ (r : Running). StaysInBounds c.args.config.now r.machine) (sym c.requires.first) (stays-first _))

pub loop-event-init : goal.loop-event-init
loop-event-init g c =
    let (cycles, quanta, left, start) = c.new-watched.ensures.cycles in
    record {
      stays = subst (λ (r : Running). StaysInBounds c.args.config.now r.machine) (sym c.requires.first) (stays-first _);
      count = ap (λ (r : Running). r.done) c.requires.first;
      before = c.read-before.ensures;
      seen = subst (λ (r : Running). HasSeen c.args.config.now c.args.events.now c.args.events.now r.machine c.new-watched.result) (sym c.requires.first)
          (seen-first c.args.config.now c.args.events.now c.new-watched.result cycles quanta left start c.new-watched.ensures.opened c.new-watched.ensures.running);
      cycles = omega (arith, cycles);
      total = omega (arith, c.new-watched.ensures.total);
    }

pub read-after-requires : goal.read-after-requires
read-after-requires g c = in_time c.args.config.now _ (stays-more _ _ _ _ _ c.in_ok-step_in_room.ensures.step.step c.loop-event.invariant.stays)

pub note_cycle-requires-clause-cycles : goal.note_cycle-requires-clause-cycles
unfolding most_entries
note_cycle-requires-clause-cycles g c = omega (arith, c.loop-event.invariant.cycles, c.loop-event-test.true, c.requires.few)

pub note_cycle-requires-clause-quanta : goal.note_cycle-requires-clause-quanta
note_cycle-requires-clause-quanta g c = (
  omega (arith, ap (λ (s : Sample). s.quanta) c.loop-event.invariant.before, few_quanta c.args.config.now _ c.loop-event.invariant.stays),
  omega (arith, ap (λ (s : Sample). s.quanta) c.read-after.ensures, few_quanta c.args.config.now _ (stays-more _ _ _ _ _ c.in_ok-step_in_room.ensures.step.step c.loop-event.invariant.stays)),
)

pub note_interval-requires : goal.note_interval-requires
unfolding most_entries
note_interval-requires g c = omega (arith, ap (λ r. r.total) c.note_cycle.ensures.running, c.loop-event.invariant.total, c.loop-event-test.true, c.requires.few)

pub loop-event-preserved : goal.loop-event-preserved
loop-event-preserved g c = record {
  stays = stays-more _ _ _ _ _ c.in_ok-step_in_room.ensures.step.step c.loop-event.invariant.stays;
  count = omega (arith, c.in_ok-step_in_room.ensures.step.done, c.loop-event.invariant.count);
  before = c.read-after.ensures;
  seen = seen-noted c.args.config.now c.args.events.now _ _ _ _ _ _ c.note_cycle.new.self _ _ _ _ c.loop-event-test.true c.in_ok-step_in_room.ensures.step.step c.loop-event.invariant.before c.read-after.ensures c.asked_by-asked.ensures
      c.loop-event.invariant.seen
      (record {
        cycles = c.note_cycle.ensures.cycles;
        quanta = c.note_cycle.ensures.quanta;
        left = c.note_cycle.ensures.left;
        start = c.note_cycle.ensures.start;
        opened = c.note_cycle.ensures.opened;
        running = c.note_cycle.ensures.running;
      })
      (record { counts = c.in_ok-note_interval.ensures.cycles; starts = c.in_ok-note_interval.ensures.starts; goes_on = c.in_ok-note_interval.ensures.goes_on });
  cycles = omega (arith, c.in_ok-note_interval.ensures.cycles.cycles, c.note_cycle.ensures.cycles, c.loop-event.invariant.cycles, one_at_most (ended_between c.loop-event.before.stage c.read-after.result.stage));
  total = omega (arith, c.in_ok-note_interval.ensures.total, ap (λ r. r.total) c.note_cycle.ensures.running, c.loop-event.invariant.total);
}

pub returns-clause-facts : goal.returns-clause-facts
returns-clause-facts g c =
    facts-all c.args.config.now c.args.events.now _ _ _ c.into_facts.result (drop_all _ _ c.loop-event-test.false) c.loop-event.invariant.seen c.into_facts.ensures.counts c.into_facts.ensures.none c.into_facts.ensures.some

pub returns-clause-after : goal.returns-clause-after
returns-clause-after g c = on-ok c.into_facts.result (after-all c.args.config.now c.args.events.now _ _ _ (drop_all _ _ c.loop-event-test.false) c.loop-event.invariant.seen)
  where
    on-ok : {X E P : Type 0} (r : Result X E) → P → OnOk r P
    on-ok (Ok value) is = is
    on-ok (Err error) is = tt
