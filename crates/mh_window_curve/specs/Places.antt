-- The windows of a trace from its longest pause on, each with the place where it has its least.
use Rattle.std.specs.Prelude.{◌≡◌, ℕ, ◌==◌, max, if◌then◌else◌, Option, List, [], ◌∷◌, map, option_map}
use Rattle.mh_model.specs.Trace.{Letter, floor}
use Rattle.mh_orders.specs.declared.promises.Round.{Round}
use Rattle.mh_windows.specs.{Always.GoToTheEnd, Lowest.IsLowest, declared.always.WindowLeast.WindowLeast}
use Rattle.mh_window_curve.specs.{Points.windows_from, declared.point.CurvePoint.CurvePoint}

-- The windows of a trace of so many letters whose longest pause has so many units: no shorter window has any unit of the mutator in each place. A trace of no letter has none
abbrev pub windows_of_pauses : ℕ → ℕ → List ℕ
windows_of_pauses longest letters = if letters == 0 then [] else windows_from letters (max 1 longest) letters

-- each point is that of its window, and each place the first in which that has its least
abbrev pub ArePlaced : List Letter → List ℕ → List WindowLeast → List ℕ → Type 0
ArePlaced letters [] [] [] = Unit {0}
ArePlaced letters (window ∷ windows) (point ∷ points) (place ∷ places) = (point.window ≡ window) × IsLowest letters window point.least place × ArePlaced letters windows points places
ArePlaced letters windows points places = ⊥

-- no points, or points that go to the end of the trace
abbrev pub GoOn : List Letter → List WindowLeast → Type 0
GoOn letters [] = Unit {0}
GoOn letters (point ∷ points) = GoToTheEnd letters (point ∷ points)

-- the floor of a window by rounds, if some are promised
abbrev pub floor_by : Option Round → ℕ → Option ℕ
floor_by round window = option_map (λ r. floor r.every r.quantum window) round

-- a point with its floor, as a picture has it
abbrev pub drawn_point : Option Round → WindowLeast → CurvePoint
drawn_point round point = record { window = point.window; least = point.least; floor = floor_by round point.window }

abbrev pub drawn_points : Option Round → List WindowLeast → List CurvePoint
drawn_points round points = map (drawn_point round) points
