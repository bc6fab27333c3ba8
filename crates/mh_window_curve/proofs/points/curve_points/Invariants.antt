use Rattle.std.proofs.Common.{◌≡◌, ◌-◌, map}
use Rattle.mh_window_curve.specs.Points.{point_at, windows_from}
use Rattle.mh_window_curve.proofs.WindowLemmas.{HasPoints}
use Rattle.mh_window_curve.proofs.points.curve_points.Given as goal

abbrev pub invariant-loop-window : goal.invariant-loop-window
invariant-loop-window l = record {
  points : HasPoints (point_at l.config l.fn.trace.trace.letters) l.letters l.window l.points.items (map (point_at l.config l.fn.trace.trace.letters) (windows_from l.letters 1 l.letters));
  trace : l.trace.trace ≡ l.fn.trace.trace;
}

abbrev pub decreases-loop-window : goal.decreases-loop-window
decreases-loop-window l = l.letters - l.window
