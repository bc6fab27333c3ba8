use Rattle.std.proofs.Common.{◌-◌, inr, refl, arith, false}
use Rattle.mh_model.specs.declared.cycle.Phase.TheVariants.{Sweep}
use Rattle.mh_cycle.proofs.StrideLemmas.{advance-turn, turn-none, advance-run, from-run, over-nothing}
use Rattle.mh_cycle.proofs.TellingLemmas.{leads-starts, leads-then}
use Rattle.mh_cycle.proofs.cycle.Cycle.sweep.Goals as goal

pub loop-self-init : goal.loop-self-init
loop-self-init g c = grind (arith, advance-turn, turn-none, leads-starts)

pub loop-self-preserved : goal.loop-self-preserved
loop-self-preserved g c =
    let phase = c.is_in.ensures.yes c.loop-self-test.true in
    record {
      advance = advance-run c.collectors_stay_steady.ensures _ _ _ _ _ _ _ c.loop-self.invariant.advance refl c.sweep_some-spent.ensures.state c.sweep_some-spent.ensures.run;
      from = from-run Sweep _ _ _ _ _ phase c.sweep_some-spent.ensures.run;
      told = leads-then g.L.Log.has _ _ _ _ _ _ _ _ _ _ _ c.loop-self.invariant.told c.sweep_some-spent.ensures.told;
    }

pub returns-then-spent-left-clause-from : goal.returns-then-spent-left-clause-from
returns-then-spent-left-clause-from g c = inr (over-nothing _ false _ (omega (arith, c.if-spent-left.true)))
