-- The stretch of a length with the fewest units of the mutator.
use Rattle.std.proofs.Common.{◌∙◌, ap}
use Rattle.std.specs.Prelude.{◌≡◌, ℕ, suc, ◌+◌, ◌-◌, ◌<◌, ◌≤◌, nat_lt, if◌then◌else◌, List, [], ◌∷◌, ◌++◌, length}
use Rattle.mh_model.specs.Trace.{Letter}
use Rattle.mh_report.specs.{Slides.Passing, Walk.mutator_units}
use Rattle.mh_run_laws.specs.Windows.{units_in}

-- so many letters are before a stretch, and so many units of the mutator are in it; the fewest that one has had, after so many letters; and how many letters are still to enter
pub record LowestState : Type 0 where
  pub start : ℕ
  pub count : ℕ
  pub least : ℕ
  pub at : ℕ
  pub left : ℕ

-- the stretch is here now: that is the lowest place only if it has fewer than any before it
abbrev pub here : ℕ → LowestState → LowestState
here count lowest = record lowest {
  count = count;
  least = if nat_lt count lowest.least then count else lowest.least;
  at = if nat_lt count lowest.least then lowest.start else lowest.at;
}

-- a letter leaves it, and one enters it
abbrev pub slid_on : LowestState → Passing → LowestState
slid_on lowest passing =
    here (lowest.count + mutator_units passing.enters 1 - mutator_units passing.leaves 1) (record lowest { start = suc lowest.start; left = lowest.left - 1 })

-- letters leave a stretch and enter it in turn
abbrev pub slid_over : LowestState → List Passing → LowestState
slid_over lowest [] = lowest
slid_over lowest (passing ∷ passings) = slid_over (slid_on lowest passing) passings

-- the stretch of this length after so many letters has so few units of the mutator, none has fewer, and each before it has more
pub record IsLowest (letters : List Letter) (window least at : ℕ) : Type 0 where
  pub inside : at + window ≤ length letters
  pub counts : units_in letters at window ≡ least
  pub below : (start : ℕ) → start + window ≤ length letters → least ≤ units_in letters start window
  pub first : (start : ℕ) → start < at → least < units_in letters start window

-- Rules ------------------------------------------------------------------------------------------

pub slid_onward : (old mid new : LowestState) (before after : List Passing) → mid ≡ slid_over old before → new ≡ slid_over mid after → new ≡ slid_over old (before ++ after)
slid_onward old mid new [] after first last = last ∙ ap (λ (s : LowestState). slid_over s after) first
slid_onward old mid new (passing ∷ before) after first last = slid_onward (slid_on old passing) mid new before after first last
