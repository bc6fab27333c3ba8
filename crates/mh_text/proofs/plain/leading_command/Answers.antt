use Rattle.std.proofs.Common.{arith}
use Rattle.mh_text.proofs.PlainLemmas.{begins_with_one, begins_with_two, begins_with_three}
use Rattle.mh_text.proofs.plain.leading_command.Goals as goal

pub returns-in_ok-with-in-OfThree-clause-some : goal.returns-in_ok-with-in-OfThree-clause-some
returns-in_ok-with-in-OfThree-clause-some c = grind (arith, begins_with_three)

pub returns-in_ok-second-in-OfTwo-clause-some : goal.returns-in_ok-second-in-OfTwo-clause-some
returns-in_ok-second-in-OfTwo-clause-some c = grind (arith, begins_with_two)

pub returns-in_ok-slot-in-OfOne-clause-some : goal.returns-in_ok-slot-in-OfOne-clause-some
returns-in_ok-slot-in-OfOne-clause-some c = grind (arith, begins_with_one)
