use Rattle.std.proofs.Common.{arith}
use Rattle.mh_text.proofs.StreamLemmas.{takes-fails, takes-more}
use Rattle.mh_text.proofs.stream.write_text.Goals as goal

pub returns-in_default : goal.returns-in_default
returns-in_default g c = takes-fails _ _ c.loop-from.invariant.1 c.in_default.ensures.failed

pub loop-from-preserved : goal.loop-from-preserved
loop-from-preserved g c = (omega (arith, c.in-Ok.ensures.within), takes-more _ _ _ c.loop-from.invariant.1 c.in-Ok.ensures.wrote)
