use Rattle.std.proofs.{Common.{◌≡◌, List, Some, None, refl, sym, ap, ◌∙◌, subst, arith}, lemmas.List.drop_all}
use Rattle.mh_model.specs.{declared.command.Event.Event, Machine.machine_replies}
use Rattle.mh_size_runs.specs.Full.{first_full_among}
use Rattle.mh_size_runs.proofs.FullLemmas.{goes_on, none-full, shifted, shifted-none, stops}
use Rattle.mh_size_runs.proofs.full.first_full_of.Goals as goal

pub loop-event-init : goal.loop-event-init
loop-event-init g c = record { count = omega arith; number = refl; rest = shifted-none _ }

pub returns-then-is_heap_full : goal.returns-then-is_heap_full
returns-then-is_heap_full g c =
    ap Some (omega (arith, c.loop-event.invariant.number)) ∙ stops _ _ _ _ _ _ c.loop-event-test.true c.in_ok-reply.ensures.step.step _ (sym c.is_heap_full.ensures ∙ c.if-is_heap_full.true) c.loop-event.invariant.rest

pub loop-event-preserved : goal.loop-event-preserved
loop-event-preserved g c = record {
  count = omega (arith, c.in_ok-reply.ensures.step.done, c.loop-event.invariant.count);
  number = omega (arith, c.loop-event.invariant.number);
  rest = goes_on _ _ _ _ _ _ c.loop-event-test.true c.in_ok-reply.ensures.step.step _ (sym c.is_heap_full.ensures ∙ c.if-is_heap_full.false) c.loop-event.invariant.rest;
}

pub returns : goal.returns
returns g c =
    let none = subst (λ (events : List Event). first_full_among (machine_replies c.loop-event.machine.machine events) ≡ None) (sym (drop_all _ _ c.loop-event-test.false)) (none-full _) in
    ap (shifted c.loop-event.event-index) (sym none) ∙ c.loop-event.invariant.rest
