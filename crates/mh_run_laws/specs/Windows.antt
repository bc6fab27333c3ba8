-- Windows of a trace: the stretches of one length, how many units of the mutator each has, and what is promised of all of them.
use Rattle.std.specs.Prelude.{◌≡◌, ℕ, ◌+◌, ◌*◌, ◌≤◌, Some, List, drop, length, take}
use Rattle.mh_model.specs.Trace.{Letter, floor, least_mutator, mutator_count}

-- how many of the first letters are the mutator's
abbrev pub before : List Letter → ℕ → ℕ
before letters place = mutator_count (take place letters)

-- how many units of the mutator are in the stretch of so many letters that begins after so many
abbrev pub units_in : List Letter → (start window : ℕ) → ℕ
units_in letters start window = mutator_count (take window (drop start letters))

-- no stretch of this length has fewer, and one has just as many
pub record IsLeast (letters : List Letter) (window least : ℕ) : Type 0 where
  pub below : (start : ℕ) → start + window ≤ length letters → least ≤ units_in letters start window
  pub at : (start : ℕ) × (start + window ≤ length letters) × (units_in letters start window ≡ least)

-- Each stretch has the floor of its length
abbrev pub KeepsFloor : (m k : ℕ) → List Letter → Type 0
KeepsFloor m k letters = (window least : ℕ) → least_mutator window letters ≡ Some least → floor m k window ≤ least

-- Each stretch of so many letters or more has so many parts of so many of the mutator
abbrev pub KeepsShare : (part whole from : ℕ) → List Letter → Type 0
KeepsShare part whole from letters = (window least : ℕ) → from ≤ window → least_mutator window letters ≡ Some least → part * window ≤ least * whole
