use Rattle.std.proofs.Common.{arith, false, refl, sym, ap, subst}
use Rattle.mh_model.specs.{Collector.marking_of, Deeds.{deeds_in, mark_deeds}}
use Rattle.mh_deeds.specs.Logs.{Told}
use Rattle.mh_cycle.specs.State.{CycleState}
use Rattle.mh_cycle.proofs.{FrameLemmas.{length-mark_step, framed-next}, ReadyLemmas.walkable, StepLemmas.mark-after}
use Rattle.mh_cycle.proofs.TellingLemmas.{step-told}
use Rattle.mh_cycle.proofs.cycle.Cycle.mark_step.Goals as goal

pub mark_step-requires-clause-walkable : goal.mark_step-requires-clause-walkable
mark_step-requires-clause-walkable g c =
    let steady = rw (← c.self.view_is) at c.requires.steady in
    walkable c.references_lead_on.ensures _ steady

pub invariant_of-self : goal.invariant_of-self
invariant_of-self g c = framed-next _ _ _ _ _ _ _ _ c.self.invariant (rw c.mark_step.ensures.table (length-mark_step _)) (rw (c.touch.ensures, c.mark_step.ensures.grey) refl) c.after_mark-self-inside.ensures

pub returns-clause-after : goal.returns-clause-after
returns-clause-after g c = grind (arith, mark-after)

pub returns-clause-told : goal.returns-clause-told
returns-clause-told g c =
    let has = g.L.Log.has in
    let marks : Told has c.args.log.now (mark_deeds (marking_of (c.args.self.now.collector)) c.args.self.now.collector.grey) c.mark_step.new.log = rw (← c.self.view_is) c.mark_step.ensures.told in
    step-told has c.args.self.now.collector false _ _ _ _ _ (sym c.requires.phase) (ap (λ (s : CycleState). s.collector.phase) (returns-clause-after g c))
    (subst (λ deeds. Told has c.args.log.now deeds c.mark_step.new.log) (sym (ap (λ p. deeds_in p c.args.self.now.collector false) c.requires.phase)) marks) c.tell_phase.ensures
