use Rattle.std.proofs.{Common.arith, Math.Nat.mul-le-mul_left}
use Rattle.mh_mark.proofs.FrontLemmas.{in_at}
use Rattle.mh_mark.proofs.batch.front_guess.Goals as goal

pub reference_count-requires : goal.reference_count-requires
reference_count-requires c = c.requires.there _ (in_at _ _ _ c.get-place.ensures)

pub overflow_mul-result : goal.overflow_mul-result
overflow_mul-result c = grind (arith, mul-le-mul_left)
