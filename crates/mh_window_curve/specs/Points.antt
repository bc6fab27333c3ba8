-- The minimum mutator utilisation of a trace (Cheng and Blelloch 2001): of each of some windows the least share that the mutator has in any stretch as long.
use Rattle.std.specs.Prelude.{◌≡◌, ℕ, zero, suc, ◌==◌, nat_lt, if◌then◌else◌, Some, unwrap_or, List, [], ◌∷◌, length, map}
use Rattle.mh_model.specs.{declared.config.Config.Config, Machine.floor_of}
use Rattle.mh_model.specs.Trace.{Letter, TraceState, mutator_count, collector_count, least_mutator}
use Rattle.mh_report.specs.Windows.{next_window}
use Rattle.mh_window_curve.specs.declared.point.{TraceCounts.TraceCounts, CurvePoint.CurvePoint}

-- the windows from one on that are shorter than a trace, so many at most, and then the whole trace
abbrev pub windows_from : ℕ → ℕ → ℕ → List ℕ
windows_from zero window letters = letters ∷ []
windows_from (suc most) window letters = if nat_lt window letters then window ∷ windows_from most (next_window window) letters else letters ∷ []

-- The windows of a trace of so many letters: from 1 on each an eighth longer, and the last is the whole trace. A trace of no letter has none
abbrev pub windows : ℕ → List ℕ
windows letters = if letters == 0 then [] else windows_from letters 1 letters

-- a window with the fewest units of the mutator in any stretch as long, and with its floor
abbrev pub point_at : Config → List Letter → ℕ → CurvePoint
point_at config letters window = record { window = window; least = unwrap_or (least_mutator window letters) 0; floor = floor_of config window }

-- The points of the curve of a trace, one for each of its windows
abbrev pub points_of : Config → List Letter → List CurvePoint
points_of config letters = map (point_at config letters) (windows (length letters))

-- the least of a point is that of its window
abbrev pub HasLeast : List Letter → CurvePoint → Type 0
HasLeast letters point = least_mutator point.window letters ≡ Some point.least

-- what a trace counts
abbrev pub trace_counts : TraceState → TraceCounts
trace_counts trace = record { mutator = mutator_count trace.letters; collector = collector_count trace.letters; quanta = Some trace.quanta; greatest = trace.greatest }
