use Rattle.std.proofs.Common.{◌≡◌, ◌++◌, drop}
use Rattle.mh_window_curve.specs.Places.{drawn_points}
use Rattle.mh_window_curve.proofs.places.drawn_points.Given as goal

abbrev pub invariant-loop-point : goal.invariant-loop-point
invariant-loop-point l = l.drawn.items ++ drawn_points l.round (drop l.point-index l.points) ≡ drawn_points l.round l.points
