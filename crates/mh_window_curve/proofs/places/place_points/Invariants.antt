use Rattle.std.proofs.Common.{◌-◌, length, max}
use Rattle.mh_window_curve.specs.Points.{windows_from}
use Rattle.mh_window_curve.proofs.PlaceLemmas.{HasPlaces}
use Rattle.mh_window_curve.proofs.places.place_points.Given as goal

abbrev pub invariant-loop-window : goal.invariant-loop-window
invariant-loop-window l =
    HasPlaces l.trace.trace.letters l.window l.placed.points.items l.placed.places.items (windows_from (length l.trace.trace.letters) (max 1 l.longest) (length l.trace.trace.letters))

abbrev pub decreases-loop-window : goal.decreases-loop-window
decreases-loop-window l = l.letters - l.window
