-- How many parts of an object are full: one for each 60 fields.
use Rattle.std.proofs.Common.{◌≡◌, ℕ, zero, suc, ◌+◌, ◌/◌, ◌≤◌, nat_lt, cond, Bool, true, false, inl, inr, List, [], ◌∷◌, Some, slice_get, refl, ap, ◌∙◌, arith, eq-eqb}
use Rattle.std.proofs.lemmas.Bool.{cases_eq, cases_lt, cases_Bool, leb-true, leb-false, lt-ltb, le-ltb, ne_eqb}
use Rattle.std.proofs.{lemmas.List.Sums.{sum_by-cons, sum_by-append}, lemmas.Option.{same_Some, slice_get_within}}
use Rattle.mh_model.specs.Classes.{Part, tabulate, run_count, middle_count, middle_spine, arraylet, plain_part, spine_parts, parts}
use Rattle.mh_classes.proofs.PartLemmas.{small_at, first_at}
use Rattle.mh_groups.specs.Auxiliary.{is_full, full_count}

-- One part ---------------------------------------------------------------------------------------

abbrev pub one_if : Bool → ℕ
one_if b = cond b 1 0

pub count_part : (part : Part) (list : List Part) → full_count (part ∷ list) ≡ one_if (is_full part) + full_count list
count_part part list = sum_by-cons (λ p. one_if (is_full p)) part list

count_full : (part : Part) (list : List Part) → is_full part ≡ true → full_count (part ∷ list) ≡ suc (full_count list)
count_full part list full = omega (arith, count_part part list, ap one_if full)

count_other : (part : Part) (list : List Part) → is_full part ≡ false → full_count (part ∷ list) ≡ full_count list
count_other part list other = omega (arith, count_part part list, ap one_if other)

-- Parts by their numbers -------------------------------------------------------------------------

none_full : (f : ℕ → Part) (first n : ℕ) → ((i : ℕ) → first ≤ i → is_full (f i) ≡ false) → full_count (tabulate f first n) ≡ 0
none_full f first zero none = refl
none_full f first (suc n) none =
    count_other (f first) (tabulate f (suc first) n) (none first (omega arith)) ∙ none_full f (suc first) n (λ i from. none i (omega arith))

-- the parts before one are full
full_before : (f : ℕ → Part) (first n end : ℕ) → ((i : ℕ) → is_full (f i) ≡ nat_lt i end) → first ≤ end → end ≤ first + n → full_count (tabulate f first n) + first ≡ end
full_before f first zero end full from to = omega arith
full_before f first (suc n) end full from to = elim (cases_lt first end) [
  | inl below ↦
      let here : full_count (tabulate f first (suc n)) ≡ suc (full_count (tabulate f (suc first) n)) = count_full (f first) (tabulate f (suc first) n) (full first ∙ lt-ltb first end below) in
      let more : full_count (tabulate f (suc first) n) + suc first ≡ end = full_before f (suc first) n end full (omega arith) (omega arith) in
      omega (arith, here, more)
  | inr past ↦
      let none : full_count (tabulate f first (suc n)) ≡ 0 = none_full f first (suc n) (λ i from. full i ∙ le-ltb i end (omega arith)) in
      omega (arith, none)
]

-- The parts of an object -------------------------------------------------------------------------

arraylet_full : (r n run : ℕ) → is_full (arraylet r n run) ≡ nat_lt run ((r + n) / 60)
arraylet_full r n run = grind (arith, cases_lt, inl, eq-eqb, lt-ltb, inr, ne_eqb, le-ltb)

plain_full : (r n : ℕ) → r + n ≤ 60 → full_count (plain_part r n ∷ []) ≡ (r + n) / 60
plain_full r n few = grind (arith, cases_eq, inl, eq-eqb, count_full, inr, ne_eqb, count_other)

spines_full : (r n : ℕ) → full_count (spine_parts r n) ≡ (r + n) / 60
spines_full r n =
    let all = sum_by-append (λ part. cond (is_full part) 1 0) (tabulate (middle_spine (r + n)) 0 (middle_count (r + n))) (tabulate (arraylet r n) 0 (run_count (r + n))) in
    let middles = none_full (middle_spine (r + n)) 0 (middle_count (r + n)) (λ i from. refl) in
    let arraylets = full_before (arraylet r n) 0 (run_count (r + n)) ((r + n) / 60) (arraylet_full r n) (omega arith) (omega arith) in
    omega (arith, all, middles, arraylets)

pub parts_full : (r n : ℕ) → full_count (parts r n) ≡ (r + n) / 60
parts_full r n = grind (arith, cases_Bool, inl, plain_full, leb-true, inr, spines_full)

-- The header of the first part has the counts of the object
pub first_header : (r n : ℕ) (part : Part) → Some part ≡ slice_get (parts r n) 0 → part.header ≡ record { references = r; numbers = n }
first_header r n part at = grind (arith, cases_Bool, inl, leb-true, same_Some, small_at, slice_get_within, inr, first_at, leb-false)
