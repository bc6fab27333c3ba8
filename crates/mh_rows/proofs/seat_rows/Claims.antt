-- Draws of two seats from a claim word, and claims of which every seat has ended, or not every one.
use Rattle.std.proofs.Common.{◌≡◌, ◌+◌, ℕ, Option, Some, None, List, [], ◌∷◌, false, true, length, refl, ◌≤◌, lit<, arith, get_or, nat_lt, if◌then◌else◌}
use Rattle.std.proofs.lemmas.Bool.Decides.{nat_tests}
use Rattle.mh_model.specs.History.{ClaimState, has_ended, IsDrawn, OnlyLastPast, times_drawn, with_draw, draw_answer}
use Rattle.mh_seat_laws.specs.Auxiliary.{AllHaveEnded}

-- seats draw in this order: what they are answered
abbrev answers : ℕ → ClaimState → List ℕ → List (Option ℕ)
answers bound claim [] = []
answers bound claim (seat ∷ seats) = draw_answer bound claim ∷ answers bound (with_draw claim seat) seats

abbrev drawn_by : ClaimState → List ℕ → ClaimState
drawn_by claim [] = claim
drawn_by claim (seat ∷ seats) = drawn_by (with_draw claim seat) seats

abbrev two_seats : ClaimState
two_seats = record { word = 0; drawn = [] ∷ [] ∷ [] }

abbrev five_draws : ClaimState
five_draws = drawn_by two_seats (0 ∷ 1 ∷ 0 ∷ 0 ∷ 1 ∷ [])

-- what five draws of two seats are answered, with the bound 3
-- refuses: a draw answers the bound too; a draw leaves the word
pub answered : answers 3 two_seats (0 ∷ 1 ∷ 0 ∷ 0 ∷ 1 ∷ []) ≡ Some 0 ∷ Some 1 ∷ Some 2 ∷ None ∷ None ∷ []
answered = refl

-- the numbers that each seat has drawn
-- refuses: a draw appends the number after; a draw leaves the word
pub drawn : five_draws.drawn ≡ (0 ∷ 2 ∷ 3 ∷ []) ∷ (1 ∷ 4 ∷ []) ∷ []
drawn = refl

-- with the bound 0 the first draw is answered nothing
-- refuses: a draw answers the bound too
pub none_below : answers 0 (record { word = 0; drawn = [] ∷ [] }) (0 ∷ []) ≡ None ∷ []
none_below = refl

once_above : (number : ℕ) → 5 ≤ number → times_drawn number five_draws.drawn ≡ (if nat_lt number five_draws.word then 1 else 0)
once_above number above = grind (arith, nat_tests)

-- each number below the word is drawn once, and no other
-- refuses: a draw appends the number after; a draw leaves the word
pub once : (number : ℕ) → times_drawn number five_draws.drawn ≡ (if nat_lt number five_draws.word then 1 else 0)
once number = search (arith, once_above)

-- only the last number of a seat may not be below the bound
-- refuses: no number of a list may be past the bound
pub only_last : (seat : ℕ) → OnlyLastPast 3 (get_or five_draws.drawn seat [])
only_last seat = grind arith

-- five draws keep the draw rule
-- refuses: the number of the word itself is drawn too
pub rule_kept : IsDrawn 3 five_draws
rule_kept = record { each_once = once; only_last_past = only_last }

-- a seat that was answered a number that is not below the bound has ended
-- refuses: a draw of the bound does not end the seat
pub ended_seats : has_ended 3 [] ∷ has_ended 3 (0 ∷ 2 ∷ []) ∷ has_ended 3 (0 ∷ 3 ∷ []) ∷ has_ended 3 (4 ∷ []) ∷ [] ≡ false ∷ false ∷ true ∷ true ∷ []
ended_seats = refl

-- two seats, of which each drew one number past the bound
abbrev both_ended : ClaimState
both_ended = record { word = 4; drawn = (0 ∷ 1 ∷ 2 ∷ []) ∷ (3 ∷ []) ∷ [] }

-- both of two seats have ended if each drew one number past the bound
-- refuses: numbers past the seats must have ended too
pub ended : AllHaveEnded 2 both_ended
ended is within = grind arith

-- when both have ended the word is past the bound by the number of the seats
pub word_at_most : both_ended.word ≡ 2 + length both_ended.drawn
word_at_most = refl

-- each number below the bound was drawn once when both have ended
pub once_each : times_drawn 0 both_ended.drawn ∷ times_drawn 1 both_ended.drawn ∷ [] ≡ 1 ∷ 1 ∷ []
once_each = refl

-- not every seat has ended if one drew no number past the bound
-- refuses: only the first seat must have ended
pub one_goes_on : ¬ AllHaveEnded 2 (record { word = 3; drawn = (0 ∷ 2 ∷ []) ∷ (1 ∷ []) ∷ [] })
one_goes_on all = let bad : false ≡ true = all 1 (lit< tt) in cc
