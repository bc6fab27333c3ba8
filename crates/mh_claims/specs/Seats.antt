-- Claims and a seat as contracts see them.
use Rattle.std.specs.Prelude.{◌≡◌, ℕ, suc, ◌<◌, Bool, false, Option, List, [], ◌∷◌, length, get_or}
use Rattle.atomic_table.specs.Seated.{TableId}
use Rattle.mh_model.specs.History.{ClaimState, with_draw, draw_answer, has_ended, IsDrawn}

-- Claims: the table of the word, the bound below which numbers are given out, and how many seats draw them
pub record ClaimsView : Type 0 where
  pub table : TableId
  pub bound : ℕ
  pub seats : ℕ

-- A seat: the table and the bound of its claims, and the numbers that it drew, in order
pub record DrawSeatView : Type 0 where
  pub table : TableId
  pub bound : ℕ
  pub drawn : List ℕ

-- a seat draws from these claims
abbrev pub DrawsFrom : ClaimsView → DrawSeatView → Type 0
DrawsFrom claims seat = (seat.table ≡ claims.table) × (seat.bound ≡ claims.bound)

-- a seat has ended: it was answered with nothing
abbrev pub seat_ended : DrawSeatView → Bool
seat_ended seat = has_ended seat.bound seat.drawn

-- a seat of these claims before its first draw
pub record IsBeforeItsDraws (claims : ClaimsView) (seat : DrawSeatView) : Type 0 where
  pub own : DrawsFrom claims seat
  pub drawn : seat.drawn ≡ []
  pub going : seat_ended seat ≡ false

-- One more than the last number of a list, or 0: what the next number of the list isn't below
abbrev pub next_of : List ℕ → ℕ
next_of [] = 0
next_of (number ∷ []) = suc number
next_of (number ∷ next ∷ numbers) = next_of (next ∷ numbers)

-- A draw by the draw rule: the answer is that of a draw in some state of the claim word.
-- There all lists of seats keep the rule, and one is what a seat drew before.
-- The state after the draw keeps the rule too, and has what the seat drew by then
pub record IsDrawnByRule (bound seats : ℕ) (before after : List ℕ) (answer : Option ℕ) : Type 0 where
  pub state : ClaimState
  pub seat : ℕ
  pub many : length state.drawn ≡ seats
  pub inside : seat < seats
  pub kept : IsDrawn bound state
  pub drawn : get_or state.drawn seat [] ≡ before
  pub answered : answer ≡ draw_answer bound state
  pub kept_after : IsDrawn bound (with_draw state seat)
  pub drawn_after : get_or (with_draw state seat).drawn seat [] ≡ after
