use Rattle.std.proofs.Common.{◌-◌, arith}
use Rattle.mh_windows.specs.declared.always.WindowLeast.{WindowLeast}
use Rattle.mh_windows.proofs.AlwaysLemmas.{from_within, keeps_from, last_at, least_fits, least_more, one_left, share_of_last, some_point, two_at}
use Rattle.mh_windows.proofs.always.share_from.Goals as goal

none : WindowLeast
none = record { window = 0; least = 0 }

pub loop-i-init : goal.loop-i-init
unfolding none
loop-i-init c = grind (arith, some_point, share_of_last, last_at, from_within)

pub share_until-requires-clause-more : goal.share_until-requires-clause-more
unfolding none
share_until-requires-clause-more c =
    let two = two_at c.args.points.now c.loop-i.i none c.loop-i-test.true in
    grind (arith, least_more)

pub share_until-requires-clause-fits : goal.share_until-requires-clause-fits
unfolding none
share_until-requires-clause-fits c =
    let two = two_at c.args.points.now c.loop-i.i none c.loop-i-test.true in
    grind (arith, least_fits)

pub loop-i-preserved : goal.loop-i-preserved
unfolding none
loop-i-preserved c =
    let points = c.args.points.now in
    let i = c.loop-i.i in
    let two = two_at points i none c.loop-i-test.true in
    grind arith

pub returns-clause-share : goal.returns-clause-share
unfolding none
returns-clause-share c = grind (arith, one_left, last_at)

pub returns-clause-keeps : goal.returns-clause-keeps
returns-clause-keeps c letters point rest same go = grind (arith, returns-clause-share, keeps_from)
