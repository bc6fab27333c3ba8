use Rattle.std.proofs.Common.{◌≡◌, ◌+◌, ◌-◌, false, refl, ap, ◌∙◌, arith}
use Rattle.mh_model.specs.{declared.cycle.Phase.TheVariants.Mark, Collector.is_idle}
use Rattle.mh_cycle.specs.State.{CycleState}
use Rattle.mh_cycle.proofs.TellingLemmas.{leads-starts, leads-step}
use Rattle.mh_cycle.proofs.StrideLemmas.{turn-none, turn-step, from-step, still}
use Rattle.mh_cycle.proofs.cycle.Cycle.mark_alone.Goals as goal

pub loop-self-init : goal.loop-self-init
loop-self-init g c = let whole : c.args.left - 0 ≡ c.args.left = omega arith in record { turn = turn-none _ _ c.requires.steady; from = rw whole c.requires.from; told = leads-starts g.L.Log.has c.args.left c.args.self.now.collector c.args.log.now }

pub loop-self-smaller : goal.loop-self-smaller
loop-self-smaller g c = omega (arith, c.if-left-spent.false)

pub loop-self-preserved : goal.loop-self-preserved
loop-self-preserved g c =
    let phase = c.is_in.ensures.yes c.loop-self-test.true in
    record {
      turn = turn-step c.collectors_stay_steady.ensures _ _ _ _ _ _ _ c.loop-self.invariant.turn refl (omega (arith, c.if-left-spent.false)) (ap is_idle phase) (λ moved. ap (λ first. 1 + first.count) c.first.view_is ∙ c.first_grey-first.ensures.cost moved) (λ moved. still Mark moved _ phase refl) c.mark_step.ensures.after;
      from = from-step Mark _ _ _ phase c.mark_step.ensures.after;
      told = leads-step g.L.Log.has _ _ _ _ _ _ _ _ _ _ _ c.loop-self.invariant.told (ap is_idle phase) (ap (λ first. 1 + first.count) c.first.view_is ∙ c.first_grey-first.ensures.cost false) (omega (arith, c.if-left-spent.false)) (still Mark false _ phase refl) (ap (λ (s : CycleState). s.collector) c.mark_step.ensures.after) c.mark_step.ensures.told;
    }
