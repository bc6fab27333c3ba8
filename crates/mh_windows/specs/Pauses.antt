-- Pauses: letters of the collector in a row.
use Rattle.std.specs.Prelude.{◌≡◌, ℕ, ◌+◌, ◌-◌, ◌<◌, ◌≤◌, List, ◌++◌, drop, length}
use Rattle.mh_model.specs.Trace.{Letter}
use Rattle.mh_report.specs.Slides.{Passing, passings}
use Rattle.mh_run_laws.specs.Windows.{units_in}
use Rattle.mh_windows.specs.declared.pause.Pause.{Pause}

-- no letter of the mutator is in the stretch, and each that is longer or as long and sooner has one
pub record IsLongest (letters : List Letter) (pause : Pause) : Type 0 where
  pub inside : pause.start + pause.units ≤ length letters
  pub none : units_in letters pause.start pause.units ≡ 0
  pub longest : (start units : ℕ) → start + units ≤ length letters → units_in letters start units ≡ 0 → units ≤ pause.units
  pub first : (start : ℕ) → start < pause.start → 0 < units_in letters start pause.units

-- so many letters have passed; so many of the last are the collector's; and the longest pause so far
pub record PauseState : Type 0 where
  pub place : ℕ
  pub here : ℕ
  pub longest : Pause
  pub left : ℕ

-- the state of a search for pauses that has gone over so many letters
pub record HasGone (letters : List Letter) (s : PauseState) : Type 0 where
  pub inside : s.place ≤ length letters
  pub here : s.here ≤ s.place
  pub paused : units_in letters (s.place - s.here) s.here ≡ 0
  pub begins : (start : ℕ) → start + s.here < s.place → 0 < units_in letters start (s.place - start)
  pub ended : s.longest.start + s.longest.units ≤ s.place
  pub none : units_in letters s.longest.start s.longest.units ≡ 0
  pub longest : (start units : ℕ) → start + units ≤ s.place → units_in letters start units ≡ 0 → units ≤ s.longest.units
  pub first : (start : ℕ) → start < s.longest.start → 0 < units_in letters start s.longest.units

-- what passes is what stands next
abbrev pub StandsNext : List Letter → PauseState → List Passing → Type 0
StandsNext letters s passed = (rest : List Passing) × (passings (drop s.place letters) (drop s.place letters) ≡ passed ++ rest)

pub record Goes (old : PauseState) (passed : List Passing) (new : PauseState) : Type 0 where
  pub place : new.place ≡ old.place + length passed
  pub goes : (letters : List Letter) → StandsNext letters old passed → HasGone letters old → HasGone letters new
