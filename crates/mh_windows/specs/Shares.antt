-- Stretches of a length or more that have less of the mutator than was promised.
use Rattle.std.specs.Prelude.{◌≡◌, ℕ, ◌+◌, ◌-◌, ◌*◌, ◌<◌, ◌≤◌, Option, MatchOption, List, ◌++◌, drop, length}
use Rattle.mh_model.specs.Trace.{Letter}
use Rattle.mh_report.specs.Slides.{Passing, passings}
use Rattle.mh_run_laws.specs.Windows.{before, units_in}
use Rattle.mh_windows.specs.declared.share.{Place.Place, Stretch.Stretch}

-- the stretch is so long at least, and so many parts of a hundred of it are more than it has of the mutator
pub record IsShort (part from : ℕ) (letters : List Letter) (stretch : Stretch) : Type 0 where
  pub inside : stretch.end ≤ length letters
  pub long : stretch.start + from ≤ stretch.end
  pub less : units_in letters stretch.start (stretch.end - stretch.start) * 100 < part * (stretch.end - stretch.start)

-- A stretch of a length slides on: it begins at `start` and ends at `end`. Of all places up to its start the one at `peak` is the worst to begin at
pub record ShareState : Type 0 where
  pub part : ℕ
  pub start : Place
  pub end : Place
  pub peak : Place
  pub broken : Option Stretch
  pub left : ℕ

-- a place with the units of the mutator before it
abbrev pub IsPlace : List Letter → Place → Type 0
IsPlace letters place = place.units ≡ before letters place.place

-- between two places there are so many parts of a hundred of the mutator
abbrev pub KeepsBetween : ℕ → List Letter → ℕ → ℕ → Type 0
KeepsBetween part letters start end = 100 * before letters start + part * end ≤ 100 * before letters end + part * start

-- so far it has slid, and has found what is short of its share
pub record HasFound (letters : List Letter) (from : ℕ) (s : ShareState) : Type 0 where
  pub start : IsPlace letters s.start
  pub end : IsPlace letters s.end
  pub peak : IsPlace letters s.peak
  pub apart : s.end.place ≡ s.start.place + from
  pub inside : s.end.place ≤ length letters
  pub passed : s.peak.place ≤ s.start.place
  pub highest : (place : ℕ) → place ≤ s.start.place → 100 * before letters place + s.part * s.peak.place ≤ 100 * before letters s.peak.place + s.part * place
  pub found : MatchOption s.broken
      ((start end : ℕ) → start + from ≤ end → end ≤ s.end.place → KeepsBetween s.part letters start end)
      (IsShort s.part from letters)

-- what passes is what stands next at both its ends
abbrev pub IsNext : List Letter → ShareState → List Passing → Type 0
IsNext letters s passed = (rest : List Passing) × (passings (drop s.start.place letters) (drop s.end.place letters) ≡ passed ++ rest)

-- the slider as it has gone on over these letters
pub record Slides (old : ShareState) (passed : List Passing) (new : ShareState) : Type 0 where
  pub part : new.part ≡ old.part
  pub start : new.start.place ≡ old.start.place + length passed
  pub end : new.end.place ≡ old.end.place + length passed
  pub finds : (letters : List Letter) (from : ℕ) → IsNext letters old passed → HasFound letters from old → HasFound letters from new
