use Rattle.std.proofs.Common.{length-take-le, arith}
use Rattle.mh_text.proofs.StreamLemmas.{gives-some}
use Rattle.mh_text.proofs.stream.read_text.Goals as goal

pub returns-then-is_err : goal.returns-then-is_err
returns-then-is_err g c = grind (arith, length-take-le, gives-some)
