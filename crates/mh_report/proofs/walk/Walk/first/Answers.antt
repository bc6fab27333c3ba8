use Rattle.std.proofs.{Common.arith, lemmas.List.length-drop}
use Rattle.mh_report.proofs.WalkLemmas.{take_alike, drop_alike, length-alike, units_within, kept_first}
use Rattle.mh_report.proofs.PointLemmas.{inside_first, after_first}
use Rattle.mh_report.proofs.walk.Walk.first.Goals as goal

pub loop-left-init : goal.loop-left-init
loop-left-init c = grind (arith, inside_first, after_first)

pub loop-left-smaller : goal.loop-left-smaller
loop-left-smaller c = omega (arith, c.pass-passed.ensures.goes c.loop-left-test.true)

pub loop-left-preserved : goal.loop-left-preserved
loop-left-preserved c = grind (arith, length-alike, take_alike, drop_alike, units_within)

pub returns-clause-walk : goal.returns-clause-walk
returns-clause-walk c = grind (arith, length-drop, after_first, inside_first, kept_first)

pub returns-clause-count : goal.returns-clause-count
returns-clause-count c = grind arith
