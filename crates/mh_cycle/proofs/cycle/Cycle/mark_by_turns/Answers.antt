use Rattle.std.proofs.Common.{refl, arith}
use Rattle.mh_model.specs.declared.cycle.Phase.TheVariants.{Mark}
use Rattle.mh_cycle.proofs.StrideLemmas.{advance-by_turn, from-turn}
use Rattle.mh_cycle.proofs.cycle.Cycle.mark_by_turns.Goals as goal

pub loop-self-preserved : goal.loop-self-preserved
loop-self-preserved g c =
    let phase = c.is_in.ensures.yes c.loop-self-test.true in
    record {
      advance = advance-by_turn _ _ _ _ _ _ _ c.loop-self.invariant.advance refl c.mark_turn-cost.ensures;
      from = from-turn Mark _ _ _ _ _ phase c.mark_turn-cost.ensures;
    }

pub returns-then-cost-eq0-clause-advance : goal.returns-then-cost-eq0-clause-advance
returns-then-cost-eq0-clause-advance g c = advance-by_turn _ _ _ _ _ _ _ c.loop-self.invariant.advance (omega (arith, c.if-cost-eq0.true)) c.mark_turn-cost.ensures

pub returns-then-cost-eq0-clause-from : goal.returns-then-cost-eq0-clause-from
returns-then-cost-eq0-clause-from g c = from-turn Mark _ _ _ _ _ (c.is_in.ensures.yes c.loop-self-test.true) c.mark_turn-cost.ensures
