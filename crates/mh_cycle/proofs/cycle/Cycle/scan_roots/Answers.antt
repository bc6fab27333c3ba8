use Rattle.std.proofs.Common.{inl, inr, sym, refl, ap, arith, false, ◌≤◌, ◌-◌}
use Rattle.mh_model.specs.{declared.cycle.Phase.TheVariants.Roots, Collector.is_idle}
use Rattle.mh_cycle.specs.State.{CycleState}
use Rattle.mh_cycle.proofs.StepLemmas.{cost-is}
use Rattle.mh_cycle.proofs.StrideLemmas.{advance-step, advance-turn, turn-none, from-step, still, over}
use Rattle.mh_cycle.proofs.TellingLemmas.{leads-starts, leads-step}
use Rattle.mh_cycle.proofs.cycle.Cycle.scan_roots.Goals as goal

pub loop-self-init : goal.loop-self-init
loop-self-init g c = grind (arith, advance-turn, turn-none, inl, leads-starts)

pub loop-self-preserved : goal.loop-self-preserved
loop-self-preserved g c =
    let phase = c.is_in.ensures.yes c.loop-self-test.true in
    let fits : 2 ≤ c.args.left - c.loop-self.spent = omega arith in
    record {
      advance = advance-step c.collectors_stay_steady.ensures _ _ 2 _ _ _ _ _ _ c.loop-self.invariant.advance refl fits (ap is_idle phase) (sym (cost-is _ Roots false phase)) (still Roots false _ phase refl) c.root_told.ensures.after;
      from = from-step Roots _ _ _ phase c.root_told.ensures.after;
      told = leads-step g.L.Log.has _ _ 2 _ _ _ _ _ _ _ _ c.loop-self.invariant.told (ap is_idle phase) (sym (cost-is _ Roots false phase)) fits (still Roots false _ phase refl) (ap (λ (s : CycleState). s.collector) c.root_told.ensures.after) c.root_told.ensures.told;
    }

pub returns-then-left-spent-lt-ROOT_COST-clause-from : goal.returns-then-left-spent-lt-ROOT_COST-clause-from
returns-then-left-spent-lt-ROOT_COST-clause-from g c =
    let phase = c.is_in.ensures.yes c.loop-self-test.true in
    inr (over _ 2 false _ (sym (cost-is _ Roots false phase)) c.if-left-spent-lt-ROOT_COST.true)
