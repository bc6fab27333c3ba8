-- A draw of a seat that hasn't ended keeps the draw rule.
use Rattle.std.proofs.Common.{◌≡◌, ℕ, zero, suc, ◌+◌, ◌<◌, ◌==◌, Bool, true, false, ◌||◌, nat_lt, nat_le, if◌then◌else◌, List, [], ◌∷◌, ◌++◌, length, get_or, set, flat_map, count_by, refl, ap, ◌∙◌, arith, inl, inr}
use Rattle.std.proofs.{lemmas.Bool.cases_eq, lemmas.Bool.Decides.nat_tests}
use Rattle.std.proofs.{lemmas.List.{get_or-set_same, get_or-set_other}, lemmas.List.Sums.sum_by-append}
use Rattle.mh_model.specs.History.{ClaimState, IsDrawn, OnlyLastPast, has_ended, times_drawn, with_draw}

abbrev counts : ℕ → List ℕ → ℕ
counts number list = count_by (λ other. other == number) list

counts-append : (number : ℕ) (xs ys : List ℕ) → counts number (xs ++ ys) ≡ counts number xs + counts number ys
counts-append number xs ys = sum_by-append (λ x. if x == number then 1 else 0) xs ys

-- one list more has a number once more
times_drawn-draw : (number word seat : ℕ) (lists : List (List ℕ)) → seat < length lists → times_drawn number (set lists seat (get_or lists seat [] ++ word ∷ [])) ≡ times_drawn number lists + (if word == number then 1 else 0)
times_drawn-draw number word seat [] inside = absurd (omega arith)
times_drawn-draw number word zero (list ∷ lists) inside =
    omega (arith, counts-append number (list ++ word ∷ []) (flat_map (λ l. l) lists), counts-append number list (word ∷ []), counts-append number list (flat_map (λ l. l) lists))
times_drawn-draw number word (suc seat) (list ∷ lists) inside =
    omega (arith, counts-append number list (flat_map (λ l. l) lists), counts-append number list (flat_map (λ l. l) (set lists seat (get_or lists seat [] ++ word ∷ []))), times_drawn-draw number word seat lists (omega arith))

-- each number of a list is below a bound
abbrev pub AllBelow : ℕ → List ℕ → Type 0
AllBelow bound [] = Unit {0}
AllBelow bound (number ∷ numbers) = (number < bound) × AllBelow bound numbers

pub below-has_ended : (bound : ℕ) (list : List ℕ) → has_ended bound list ≡ false → AllBelow bound list
below-has_ended bound [] goes = tt
below-has_ended bound (number ∷ list) goes = go (nat_le bound number) refl goes (below-has_ended bound list)
  where
    go : (past : Bool) → nat_le bound number ≡ past → (past || has_ended bound list) ≡ false → (has_ended bound list ≡ false → AllBelow bound list) → AllBelow bound (number ∷ list)
    go true is goes rest = let bad : true ≡ false = goes in cc
    go false is goes rest = (grind (arith, nat_tests), rest goes)

pub only_last_past-append : (bound number : ℕ) (list : List ℕ) → AllBelow bound list → OnlyLastPast bound (list ++ number ∷ [])
only_last_past-append bound number [] below = tt
only_last_past-append bound number (first ∷ []) below = (below.0, tt)
only_last_past-append bound number (first ∷ next ∷ list) below = (below.0, only_last_past-append bound number (next ∷ list) below.1)

one_more : (number word : ℕ) → (if nat_lt number word then 1 else 0) + (if word == number then 1 else 0) ≡ (if nat_lt number (word + 1) then 1 else 0)
one_more number word = grind (arith, nat_tests)

-- The draw rule is kept by a draw of a seat that has not ended
pub with_draw-kept : (bound : ℕ) (claim : ClaimState) (seat : ℕ) → seat < length claim.drawn → has_ended bound (get_or claim.drawn seat []) ≡ false → IsDrawn bound claim → IsDrawn bound (with_draw claim seat)
with_draw-kept bound claim seat inside goes rule = record {
  each_once = λ number. times_drawn-draw number claim.word seat claim.drawn inside ∙ ap (λ n. n + (if claim.word == number then 1 else 0)) (rule.each_once number) ∙ one_more number claim.word;
  only_last_past = last;
}
  where
    last : (other : ℕ) → OnlyLastPast bound (get_or (set claim.drawn seat (get_or claim.drawn seat [] ++ claim.word ∷ [])) other [])
    last other = grind (arith, cases_eq, inl, get_or-set_same, only_last_past-append, below-has_ended, inr, get_or-set_other)
