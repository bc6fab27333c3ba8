use Rattle.std.proofs.Common.{◌+◌, ◌-◌, ◌++◌, false, refl, arith}
use Rattle.mh_model.specs.Deeds.{deeds_of_steps}
use Rattle.mh_cycle.proofs.StrideLemmas.{advance-turn, advance-by_turn}
use Rattle.mh_cycle.proofs.cycle.Cycle.mark.Goals as goal

pub returns-then-is_alone-clause-advance : goal.returns-then-is_alone-clause-advance
returns-then-is_alone-clause-advance g c = advance-turn _ _ _ _ c.mark_alone.ensures.turn

pub returns-then-not-is_silent-clause-advance : goal.returns-then-not-is_silent-clause-advance
returns-then-not-is_silent-clause-advance g c = advance-turn _ _ _ _ c.mark_alone-then-not-is_silent.ensures.turn

pub returns-clause-advance : goal.returns-clause-advance
returns-clause-advance g c = advance-by_turn _ _ _ _ _ _ _ c.mark_by_turns-spent.ensures.advance refl c.mark_alone-rest.ensures.turn

pub returns-clause-from : goal.returns-clause-from
returns-clause-from g c = grind arith

-- a log that keeps nothing has any deeds
pub returns-clause-told : goal.returns-clause-told
returns-clause-told g c = λ end rest before is. c.is_silent.ensures c.if-not-is_silent.false end (before ++ deeds_of_steps c.args.left c.args.left false c.args.self.now.collector)
