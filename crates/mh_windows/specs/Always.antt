-- What each window from one on has, by the least of few of them.
use Rattle.std.specs.Prelude.{◌≡◌, ℕ, ◌-◌, ◌<◌, ◌≤◌, min, Some, List, [], ◌∷◌, length}
use Rattle.mh_model.specs.Trace.{Letter, floor, least_mutator}
use Rattle.mh_report.specs.Windows.{share_of}
use Rattle.mh_windows.specs.{declared.always.WindowLeast.WindowLeast, declared.floor.BrokenFloor.BrokenFloor}
use Rattle.mh_windows.specs.Lowest.{IsLowest}

-- a point has the least of its window
abbrev pub HasLeast : List Letter → WindowLeast → Type 0
HasLeast letters point = least_mutator point.window letters ≡ Some point.least

-- the points are those of longer and longer windows, the last of which is the whole trace
abbrev pub GoToTheEnd : List Letter → List WindowLeast → Type 0
GoToTheEnd letters [] = ⊥
GoToTheEnd letters (point ∷ []) = HasLeast letters point × (point.window ≡ length letters)
GoToTheEnd letters (point ∷ next ∷ points) = HasLeast letters point × (point.window ≤ next.window) × GoToTheEnd letters (next ∷ points)

-- the share, in parts of ten thousand, that each window from one point to the next has: at worst it is as long as it may be with no more units than the first
abbrev pub share_until : WindowLeast → WindowLeast → ℕ
share_until point next = share_of point.least (next.window - (next.least - point.least))

-- the share that each window has from the first of these points on
abbrev pub share_from : List WindowLeast → ℕ
share_from [] = 0
share_from (point ∷ []) = share_of point.least point.window
share_from (point ∷ next ∷ points) = min (share_until point next) (share_from (next ∷ points))

-- the floor of this window isn't kept: its lowest place has less
pub record IsBroken (m k : ℕ) (letters : List Letter) (broken : BrokenFloor) : Type 0 where
  pub lowest : IsLowest letters broken.window broken.least broken.at
  pub floor : broken.floor ≡ floor m k broken.window
  pub less : broken.least < broken.floor
