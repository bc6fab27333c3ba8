use Rattle.std.proofs.Common.{arith}
use Rattle.mh_report.proofs.{WalkLemmas.{drop_alike, length-alike}, PointLemmas.{after_first, inside_first}}
use Rattle.mh_report.proofs.slide.point_after.Goals as goal

pub loop-left-init : goal.loop-left-init
loop-left-init c = grind (arith, inside_first, after_first)

pub loop-left-preserved : goal.loop-left-preserved
loop-left-preserved c = grind (arith, length-alike, drop_alike)
