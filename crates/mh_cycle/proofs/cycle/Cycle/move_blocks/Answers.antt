use Rattle.std.proofs.Common.{◌≡◌, ◌∙◌, ◌-◌, ◌||◌, ◌++◌, false, inl, sym, refl, ap, subst, arith, is_some}
use Rattle.std.proofs.lemmas.Bool.{true≢false}
use Rattle.mh_model.specs.{declared.cycle.Phase.TheVariants.Defrag, Collector.{is_idle, forwarded_slots}}
use Rattle.mh_model.specs.Deeds.{deeds_in, step_deeds, deeds_of_steps}
use Rattle.mh_deeds.specs.{Logs.Told, Auxiliary.Leads}
use Rattle.mh_deeds.proofs.ToldLemmas.{leads-ends}
use Rattle.mh_laws.proofs.costs.Quanta.{step_cost-positive}
use Rattle.mh_cycle.specs.{State.CycleState, Auxiliary.with_forwarded}
use Rattle.mh_cycle.proofs.{DeedLemmas.deeds-over, StepLemmas.{cost-is, moving-defrag}}
use Rattle.mh_cycle.proofs.TellingLemmas.{step-told, leads-starts, leads-step, defrag-phase}
use Rattle.mh_cycle.proofs.StrideLemmas.{advance-ends, later-stride, over, over-past}
use Rattle.mh_cycle.proofs.HopLemmas.{steady-forwarded, steady-lead}
use Rattle.mh_cycle.proofs.DefragLemmas.{steady-same, is-step, IsPassed, advance-none, from-none, stride-passed, advance-passed, lead-passed, still-passed, advance-moved, from-moved, lead-moved, still-moved}
use Rattle.mh_cycle.proofs.cycle.Cycle.move_blocks.Goals.{then-has_moved, else-has_moved}
use Rattle.mh_cycle.proofs.cycle.Cycle.move_blocks.Goals as goal

pub loop-log-smaller : goal.loop-log-smaller
loop-log-smaller g c = grind (arith, step_cost-positive)

pub loop-log-init : goal.loop-log-init
loop-log-init g c = record {
  advance = advance-none c.args.left c.args.self.now c.requires.steady;
  from = from-none c.args.left c.args.self.now.collector c.requires.steady c.requires.from;
  lead = steady-lead c.args.self.now.collector c.requires.steady;
  still = λ e. steady-forwarded c.args.self.now.collector c.requires.steady;
  told = subst (λ x. Leads g.L.Log.has c.args.log.now (deeds_of_steps c.args.left c.args.left false c.args.self.now.collector) c.args.log.now (deeds_of_steps (c.args.left - 0) (c.args.left - 0) false x)) (sym (steady-same c.args.self.now.collector c.requires.steady)) (leads-starts g.L.Log.has c.args.left c.args.self.now.collector c.args.log.now);
}

pub loop-log-preserved-then-count-ne0 : goal.loop-log-preserved-then-count-ne0
loop-log-preserved-then-count-ne0 g c =
    let phase = c.is_in.ensures.yes c.loop-log-test.true in
    let is : IsPassed c.still_run-run.result.count c.loop-log.self c.pass.new.self = record { state = c.pass.ensures.state; table = c.pass.ensures.table; slots = c.pass.ensures.slots; stride = c.pass.ensures.stride } in
    record {
      advance = advance-passed c.collectors_stay_steady.ensures _ _ _ _ _ _ c.loop-log.self c.pass.new.self c.loop-log.invariant.advance refl c.still_run-run.ensures.fits is;
      from = inl (later-stride Defrag _ c.loop-log.has_moved (with_forwarded c.loop-log.self.collector) (with_forwarded c.pass.new.self.collector) phase (stride-passed _ c.loop-log.has_moved c.loop-log.self c.pass.new.self is));
      lead = lead-passed _ c.loop-log.self c.pass.new.self is c.loop-log.invariant.lead;
      still = λ e. still-passed _ c.loop-log.self c.pass.new.self is (c.loop-log.invariant.still e);
      told = λ end rest before is. c.is_silent.ensures c.if-is_silent.true end (before ++ deeds_of_steps c.args.left c.args.left false c.args.self.now.collector);
    }

pub loop-log-preserved : goal.loop-log-preserved
loop-log-preserved g c =
    let phase = c.is_in.ensures.yes c.loop-log-test.true in
    let of = c.next_target-target.ensures in
    let moving : c.if-has_moved.has_moved ≡ (c.loop-log.has_moved || is_some c.next_target-target.result) = elim c.if-has_moved.branch [
      | then-has_moved w ↦ rw (w.has_moved-is, w.if-has_moved.true) refl
      | else-has_moved w ↦ rw (w.has_moved-is, w.if-has_moved.false) w.is_some-has_moved.ensures
    ] in
    let told : Told g.L.Log.has c.loop-log.log (step_deeds (with_forwarded c.loop-log.self.collector) c.loop-log.has_moved) c.tell_phase.new.log =
    step-told g.L.Log.has (with_forwarded c.loop-log.self.collector) c.loop-log.has_moved _ _ _ _ _ (sym phase) (ap (λ (s : CycleState). s.collector.phase) (c.self.view_is ∙ c.defrag_step.ensures) ∙ defrag-phase c.loop-log.self.collector (forwarded_slots c.loop-log.self.collector.table c.loop-log.self.collector.slots) phase)
    (subst (λ deeds. Told g.L.Log.has c.loop-log.log deeds c.tell_move.new.log) (sym (ap (λ p. deeds_in p (with_forwarded c.loop-log.self.collector) c.loop-log.has_moved) phase)) c.tell_move.ensures) c.tell_phase.ensures in
    record {
      advance = advance-moved c.collectors_stay_steady.ensures _ _ _ _ _ _ _ c.loop-log.self c.defrag_step.new.self c.next_target-target.result c.loop-log.invariant.advance refl (omega (arith, c.if-left-spent.false)) phase of c.move_cost-cost.ensures moving c.defrag_step.ensures;
      from = inl (from-moved c.loop-log.self c.defrag_step.new.self c.next_target-target.result phase of c.loop-log.invariant.advance.steady c.defrag_step.ensures);
      lead = lead-moved c.loop-log.self c.defrag_step.new.self c.next_target-target.result phase of c.defrag_step.ensures c.loop-log.invariant.lead;
      still = still-moved _ _ c.loop-log.self c.defrag_step.new.self c.next_target-target.result phase of c.defrag_step.ensures moving c.loop-log.invariant.still;
      told =
          leads-step g.L.Log.has _ _ _ _ _ (with_forwarded c.loop-log.self.collector) (with_forwarded c.defrag_step.new.self.collector) _ _ _ _ c.loop-log.invariant.told (ap is_idle phase)
          (c.move_cost-cost.ensures ∙ cost-is c.loop-log.self.collector Defrag c.loop-log.has_moved phase ∙ sym (cost-is (with_forwarded c.loop-log.self.collector) Defrag c.loop-log.has_moved phase)) (omega (arith, c.if-left-spent.false))
          (moving ∙ ap (λ b. c.loop-log.has_moved || b) (moving-defrag (with_forwarded c.loop-log.self.collector) c.next_target-target.result phase of))
          (ap (λ (s : CycleState). s.collector) (is-step c.loop-log.self c.defrag_step.new.self c.next_target-target.result phase of c.loop-log.invariant.advance.steady c.defrag_step.ensures))
          told;
    }

pub returns-after-loop-log-clause-rest : goal.returns-after-loop-log-clause-rest
returns-after-loop-log-clause-rest g c = advance-ends _ _ _ _ _ c.loop-log.invariant.advance (over-past _ _ _ (λ e. true≢false (sym (c.is_in.ensures.no e) ∙ c.loop-log-test.false)) c.loop-log.invariant.from)

pub returns-then-left-spent-clause-rest : goal.returns-then-left-spent-clause-rest
returns-then-left-spent-clause-rest g c =
    let phase = c.is_in.ensures.yes c.loop-log-test.true in
    advance-ends _ _ _ _ _ c.loop-log.invariant.advance (over _ _ _ (with_forwarded c.loop-log.self.collector) (c.move_cost-cost.ensures ∙ cost-is c.loop-log.self.collector Defrag c.loop-log.has_moved phase ∙ sym (cost-is (with_forwarded c.loop-log.self.collector) Defrag c.loop-log.has_moved phase)) c.if-left-spent.true)

pub returns-after-loop-log-clause-told : goal.returns-after-loop-log-clause-told
returns-after-loop-log-clause-told g c = leads-ends g.L.Log.has _ _ _ _ c.loop-log.invariant.told (deeds-over _ _ _ _ (over-past _ _ _ (λ e. true≢false (sym (c.is_in.ensures.no e) ∙ c.loop-log-test.false)) c.loop-log.invariant.from))

pub returns-then-left-spent-clause-told : goal.returns-then-left-spent-clause-told
returns-then-left-spent-clause-told g c =
    let phase = c.is_in.ensures.yes c.loop-log-test.true in
    leads-ends g.L.Log.has _ _ _ _ c.loop-log.invariant.told (deeds-over _ _ _ _ (over _ _ _ (with_forwarded c.loop-log.self.collector) (c.move_cost-cost.ensures ∙ cost-is c.loop-log.self.collector Defrag c.loop-log.has_moved phase ∙ sym (cost-is (with_forwarded c.loop-log.self.collector) Defrag c.loop-log.has_moved phase)) c.if-left-spent.true))
