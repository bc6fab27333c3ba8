-- What a step at the claim word gives the seat that takes it.
use Rattle.std.specs.Prelude.{◌≡◌, ℕ, ◌≤◌, nat_lt, if◌then◌else◌, Option, Some, None, List, [], ◌∷◌, ◌++◌, slice_index_or}
use Rattle.atomic_table.specs.Table.{Me, Step}
use Rattle.mh_seat_laws.specs.ClaimWord.{Lists}
use Rattle.mh_claims.specs.Seats.{next_of, IsDrawnByRule}

-- what a seat knows that stands for itself alone, by its list
abbrev pub alone : List ℕ → Me (Unit {0}) Lists
alone drawn = (drawn ∷ [], [])

-- the first list that a seat knows
abbrev pub first_list : Me (Unit {0}) Lists → List ℕ
first_list me = slice_index_or me.0 0 []

-- what a number that was found in the word answers
abbrev pub answer_found : ℕ → ℕ → Option ℕ
answer_found bound found = if nat_lt found bound then Some found else None

-- A draw of claims with a bound and a number of seats: the number found is appended to the list of the seat, whose last number was below it, by the draw rule
pub record HasDrawn (about : ℕ × ℕ) (before : Me (Unit {0}) Lists) (found : ℕ) (after : Me (Unit {0}) Lists) : Type 0 where
  pub appended : after ≡ alone (first_list before ++ found ∷ [])
  pub rising : next_of (first_list before) ≤ found
  pub rule : IsDrawnByRule about.0 about.1 (first_list before) (first_list before ++ found ∷ []) (answer_found about.0 found)

-- a step at the word draws as the draw rule has it
abbrev pub Draws : ℕ × ℕ → Step (Unit {0}) → Me (Unit {0}) Lists → ℕ → Me (Unit {0}) Lists → Type 0
Draws about step before found after = HasDrawn about before found after
