use Rattle.std.proofs.Common.{◌+◌, ◌-◌, arith}
use Rattle.mh_text.proofs.DigitLemmas.{count_next, value_next}
use Rattle.mh_text.proofs.word.digits_after.Goals.{then-value-lt-SAFE, else-value-lt-SAFE+in_ok-checked_mul+in_ok-value}
use Rattle.mh_text.proofs.word.digits_after.Goals as goal

pub loop-count-preserved : goal.loop-count-preserved
loop-count-preserved c = grind (arith, then-value-lt-SAFE, else-value-lt-SAFE+in_ok-checked_mul+in_ok-value, value_next, count_next)
