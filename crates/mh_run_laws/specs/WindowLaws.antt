-- The laws of windows, by which few windows decide what holds of all.
use Rattle.std.specs.Prelude.{◌≡◌, ◌↔◌, ℕ, ◌+◌, ◌-◌, ◌*◌, ◌<◌, ◌≤◌, min, Some, List, length}
use Rattle.mh_model.specs.Trace.{Letter, floor, least_mutator}
use Rattle.mh_run_laws.specs.Windows.{IsLeast, KeepsFloor}

-- The least number of units of the mutator in a window is that of the stretches of its length, if there are any
pub record LeastIsOfStretches : Type 0 where
  pub least : (letters : List Letter) (window least : ℕ) → (least_mutator window letters ≡ Some least) ↔ IsLeast letters window least
  pub exists : (letters : List Letter) (window : ℕ) → window ≤ length letters → (least : ℕ) × (least_mutator window letters ≡ Some least)

-- A longer window has as many, and at most as many more as it is longer. One that is as long as two others has what both have together
pub record LeastGrows : Type 0 where
  pub never_falls : (letters : List Letter) (v w a b : ℕ) → v ≤ w → least_mutator v letters ≡ Some a → least_mutator w letters ≡ Some b → a ≤ b
  pub slowly : (letters : List Letter) (v w a b : ℕ) → v ≤ w → least_mutator v letters ≡ Some a → least_mutator w letters ≡ Some b → b + v ≤ a + w
  pub adds_up : (letters : List Letter) (v w a b c : ℕ) → least_mutator v letters ≡ Some a → least_mutator w letters ≡ Some b → least_mutator (v + w) letters ≡ Some c → a + b ≤ c

-- The window of one round decides on the floors of all windows, or the whole trace if that is shorter
abbrev pub OneWindowDecides : Type 0
OneWindowDecides = (letters : List Letter) (m k least : ℕ) → 0 < m + k → least_mutator (min (m + k) (length letters)) letters ≡ Some least
    → KeepsFloor m k letters ↔ (floor m k (min (m + k) (length letters)) ≤ least)

-- A window between two others has at least the share that the shorter one's units are of the longest window that may have no more
abbrev pub SharesBetween : Type 0
SharesBetween = (letters : List Letter) (v x w a least b : ℕ) → v ≤ x → x ≤ w → least_mutator v letters ≡ Some a → least_mutator x letters ≡ Some least → least_mutator w letters ≡ Some b
    → a * x ≤ least * (w - (b - a))
