-- How far the claim word goes past its bound, at most one for each seat, and which numbers are drawn: once all seats have ended each below the bound, once.
use Rattle.std.proofs.Common.{◌≡◌, ℕ, zero, suc, ◌+◌, ◌<◌, ◌≤◌, ◌==◌, Bool, true, false, ◌||◌, ◌&&◌, nat_lt, nat_le, if◌then◌else◌, inl, inr, List, [], ◌∷◌, length, get_or, flat_map, count_by, arith, refl, ◌∙◌}
use Rattle.std.proofs.{lemmas.Bool.{cases_lt, false≢true}, lemmas.Bool.Decides.nat_tests}
use Rattle.std.proofs.lemmas.List.Sums.{count_by-le-length, sum_by-append, sum_by-cons}
use Rattle.mh_model.specs.History.{ClaimState, IsDrawn, OnlyLastPast, has_ended, times_drawn}
use Rattle.mh_seat_laws.specs.Auxiliary.{AllHaveEnded}

-- how often a number stands in a list
abbrev pub counts : ℕ → List ℕ → ℕ
counts number list = count_by (λ other. other == number) list

-- how many numbers of a list aren't below a bound
abbrev past : ℕ → List ℕ → ℕ
past bound list = count_by (nat_le bound) list

-- and how many of those are below an end
abbrev between : ℕ → ℕ → List ℕ → ℕ
between bound end list = count_by (λ other. nat_le bound other && nat_lt other end) list

-- one number more counts if it passes the test
pub count-cons : (test : ℕ → Bool) (number : ℕ) (list : List ℕ) → count_by test (number ∷ list) ≡ (if test number then 1 else 0) + count_by test list
count-cons test number list = sum_by-cons (λ x. if test x then 1 else 0) number list

not_past : (bound number : ℕ) → number < bound → (if nat_le bound number then 1 else 0) ≤ 0
not_past bound number below = grind (arith, nat_tests)

-- A list has at most one number past the bound
one_past : (bound : ℕ) (list : List ℕ) → OnlyLastPast bound list → past bound list ≤ 1
one_past bound [] last = omega arith
one_past bound (number ∷ []) last = count_by-le-length (nat_le bound) (number ∷ [])
one_past bound (number ∷ next ∷ list) last = omega (arith, count-cons (nat_le bound) number (next ∷ list), not_past bound number last.0, one_past bound (next ∷ list) last.1)

-- so the lists together have at most one for each
one_past_each : (bound : ℕ) (lists : List (List ℕ)) → ((seat : ℕ) → OnlyLastPast bound (get_or lists seat [])) → past bound (flat_map (λ list. list) lists) ≤ length lists
one_past_each bound [] last = omega arith
one_past_each bound (list ∷ lists) last =
    omega (arith, sum_by-append (λ x. if nat_le bound x then 1 else 0) list (flat_map (λ l. l) lists), one_past bound list (last 0), one_past_each bound lists (λ seat. last (suc seat)))

between_one : (bound end number : ℕ) → bound ≤ end
    → (if nat_le bound number && nat_lt number (suc end) then 1 else 0) ≡ (if nat_le bound number && nat_lt number end then 1 else 0) + (if number == end then 1 else 0)
between_one bound end number within = grind (arith, nat_tests)

-- The numbers below the next end are those below this one and the end itself
between_more : (bound end : ℕ) (list : List ℕ) → bound ≤ end → between bound (suc end) list ≡ between bound end list + counts end list
between_more bound end [] within = omega arith
between_more bound end (number ∷ list) within = omega (
  arith,
  count-cons (λ other. nat_le bound other && nat_lt other (suc end)) number list,
  count-cons (λ other. nat_le bound other && nat_lt other end) number list,
  count-cons (λ other. other == end) number list,
  between_one bound end number within,
  between_more bound end list within,
)

past_one : (bound end number : ℕ) → (if nat_le bound number && nat_lt number end then 1 else 0) ≤ (if nat_le bound number then 1 else 0)
past_one bound end number = grind (arith, nat_tests)

between_past : (bound end : ℕ) (list : List ℕ) → between bound end list ≤ past bound list
between_past bound end [] = omega arith
between_past bound end (number ∷ list) = omega (arith, count-cons (λ other. nat_le bound other && nat_lt other end) number list, count-cons (nat_le bound) number list, past_one bound end number, between_past bound end list)

-- Where each number below an end stands in a list, as many stand in it from the bound on as there are up to the end
end_between : (bound end : ℕ) (list : List ℕ) → ((number : ℕ) → number < end → 1 ≤ counts number list) → end ≤ bound + between bound end list
end_between bound zero list each = omega arith
end_between bound (suc end) list each = elim (cases_lt end bound) [
  | inl below ↦ omega arith
  | inr within ↦ omega (arith, between_more bound end list within, each end (omega arith), end_between bound end list (λ number lt. each number (omega arith)))
]

drawn_below : (number word : ℕ) → number < word → ◌≡◌ {A = ℕ} (if nat_lt number word then 1 else 0) 1
drawn_below number word lt = grind (arith, nat_tests)

below_drawn : (number word : ℕ) → 1 ≤ (if nat_lt number word then 1 else 0) → number < word
below_drawn number word drawn = grind (arith, nat_tests)

-- The word is past the bound by no more than the number of the seats
pub word-near_bound : (bound : ℕ) (claim : ClaimState) → IsDrawn bound claim → claim.word ≤ bound + length claim.drawn
word-near_bound bound claim rule =
    let all : List ℕ = flat_map (λ list. list) claim.drawn in
    let drawn : (number : ℕ) → number < claim.word → 1 ≤ counts number all = λ number lt. omega (arith, rule.each_once number, drawn_below number claim.word lt) in
    omega (arith, end_between bound claim.word all drawn, between_past bound claim.word all, one_past_each bound claim.drawn rule.only_last_past)

pub itself : (number : ℕ) → 1 ≤ (if number == number then 1 else 0)
itself number = grind (arith, nat_tests)

past_test : (bound number : ℕ) → nat_le bound number ≡ true → bound ≤ number
past_test bound number is = grind (arith, nat_tests)

-- A list of a seat that has ended has a number past the bound
ended-past : (bound : ℕ) (list : List ℕ) → has_ended bound list ≡ true → (number : ℕ) × (bound ≤ number) × (1 ≤ counts number list)
ended-past bound [] ended = absurd (false≢true ended)
ended-past bound (number ∷ list) ended = go (nat_le bound number) refl ended (ended-past bound list)
  where
    first_counts : 1 ≤ counts number (number ∷ list)
    first_counts = omega (arith, count-cons (λ other. other == number) number list, itself number)

    go : (is : Bool) → nat_le bound number ≡ is → (is || has_ended bound list) ≡ true → (has_ended bound list ≡ true → (other : ℕ) × (bound ≤ other) × (1 ≤ counts other list)) → (other : ℕ) × (bound ≤ other) × (1 ≤ counts other (number ∷ list))
    go true same ended rest = (number, past_test bound number same, first_counts)
    go false same ended rest = let found = rest ended in (found.0, found.1, omega (arith, count-cons (λ other. other == found.0) number list, found.2))

list-counts : (lists : List (List ℕ)) (seat number : ℕ) → counts number (get_or lists seat []) ≤ times_drawn number lists
list-counts [] seat number = omega arith
list-counts (list ∷ lists) zero number = omega (arith, sum_by-append (λ x. if x == number then 1 else 0) list (flat_map (λ l. l) lists))
list-counts (list ∷ lists) (suc seat) number = omega (arith, sum_by-append (λ x. if x == number then 1 else 0) list (flat_map (λ l. l) lists), list-counts lists seat number)

-- A number that a seat drew is below the word
pub drawn-below : (bound : ℕ) (claim : ClaimState) → IsDrawn bound claim → (seat number : ℕ) → 1 ≤ counts number (get_or claim.drawn seat []) → number < claim.word
drawn-below bound claim rule seat number drawn = below_drawn number claim.word (omega (arith, list-counts claim.drawn seat number, rule.each_once number))

-- If every seat has ended, each number below the bound is drawn once
pub ended-drawn_once : (bound : ℕ) (claim : ClaimState) → IsDrawn bound claim → 0 < length claim.drawn → AllHaveEnded bound claim → (number : ℕ) → number < bound → times_drawn number claim.drawn ≡ 1
ended-drawn_once bound claim rule some ended number lt =
    let found = ended-past bound (get_or claim.drawn 0 []) (ended 0 some) in
    rule.each_once number ∙ drawn_below number claim.word (omega (arith, found.1, drawn-below bound claim rule 0 found.0 found.2))
