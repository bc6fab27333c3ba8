-- Blocks counted by their classes, and the pages that they fill.
use Rattle.std.proofs.Common.{◌≡◌, inl, inr, ℕ, zero, suc, ◌+◌, ◌*◌, ◌==◌, ◌<◌, ◌≤◌, ◌||◌, ◌&&◌, not, Bool, true, false, cond, if◌then◌else◌, Option, Some, option_map, unwrap_or, List, [], ◌∷◌, ◌++◌, length, get_or, slice_get, set, take, drop, map, sum, refl, sym, ap, ap₂, ◌∙◌, subst, arith, add-one}
use Rattle.std.proofs.{Math.Nat.mul-le-mul_right, lemmas.Bool.{and_parts, cases_lt, eqb-true, false≢true}}
use Rattle.std.proofs.{lemmas.Cmp.nat_eq_equiv, lemmas.Grind.div_ceil_times}
use Rattle.std.proofs.{lemmas.List.Sums.{sum_by_push, sum_by_more, sum_by-take-le}, Math.Seq.{drop-cons, take-add}}
use Rattle.std.proofs.{lemmas.Option.{get_or_from_slice_get, slice_get_within}, lemmas.List.append_assoc}
use Rattle.std.proofs.lemmas.Nat.{mul-le}
use Rattle.std.specs.{Int.div_ceil, List.list_any}
use Rattle.mh_model.specs.Classes.{Part, class_sizes, class_of, is_class_size, slots_in, part_words}
use Rattle.mh_model.specs.Openings.{is_of_class, class_parts, pages_for}
use Rattle.mh_classes.specs.Numbers.{index_in, class_number}

-- the sum of the values of a function below a number
abbrev pub sum_below : (ℕ → ℕ) → ℕ → ℕ
sum_below f zero = 0
sum_below f (suc n) = sum_below f n + f n

pub sum_below-more : (f : ℕ → ℕ) (n : ℕ) → sum_below f (n + 1) ≡ sum_below f n + f n
sum_below-more f n = ap (sum_below f) (add-one n)

-- Counts -----------------------------------------------------------------------------------------

-- no number stands twice
apart-all : List ℕ → Bool
apart-all [] = true
apart-all (x ∷ xs) = not (list_any (λ y. x == y) xs) && apart-all xs

module _ {X : Type 0} (f g : ℕ → X) (size : ℕ) (others : (other : ℕ) → (size == other) ≡ false → g other ≡ f other) where
  map-others : (sizes : List ℕ) → not (list_any (λ y. size == y) sizes) ≡ true → map f sizes ≡ map g sizes
  map-others [] apart = refl
  map-others (other ∷ sizes) apart = go (size == other) refl apart (map-others sizes)
    where
      go : (same : Bool) → (size == other) ≡ same → not (same || list_any (λ y. size == y) sizes) ≡ true → (not (list_any (λ y. size == y) sizes) ≡ true → map f sizes ≡ map g sizes) → f other ∷ map f sizes ≡ g other ∷ map g sizes
      go true is none rest = absurd (false≢true none)
      go false is none rest = ap₂ (λ x xs. x ∷ xs) (sym (others other is)) (rest none)

  -- what is counted for one class
  set-counted : (sizes : List ℕ) → apart-all sizes ≡ true → set (map f sizes) (index_in sizes size) (g size) ≡ map g sizes
  unfolding apart-all
  set-counted [] apart = refl
  set-counted (other ∷ sizes) apart =
      let (here, after) = and_parts (not (list_any (λ y. other == y) sizes)) (apart-all sizes) apart in
      go (other == size) refl here (set-counted sizes after)
    where
      go : (same : Bool) → (other == size) ≡ same → not (list_any (λ y. other == y) sizes) ≡ true → set (map f sizes) (index_in sizes size) (g size) ≡ map g sizes
          → set (f other ∷ map f sizes) (if same then 0 else suc (index_in sizes size)) (g size) ≡ g other ∷ map g sizes
      go true is none rest =
          let e : size ≡ other = sym (eqb-true other size is) in
          ap₂ (λ x xs. x ∷ xs) (ap g e) (map-others sizes (subst (λ (n : ℕ). not (list_any (λ y. n == y) sizes) ≡ true) (sym e) none))
      go false is none rest = ap₂ (λ x xs. x ∷ xs) (sym (others other (nat_eq_equiv.symm size other ∙ is))) rest

get-counted : {X : Type 0} (f : ℕ → X) (size : ℕ) (d : X) (sizes : List ℕ) → list_any (λ other. other == size) sizes ≡ true → get_or (map f sizes) (index_in sizes size) d ≡ f size
get-counted f size d [] is = absurd (false≢true is)
get-counted f size d (other ∷ sizes) is = go (other == size) refl is (get-counted f size d sizes)
  where
    go : (same : Bool) → (other == size) ≡ same → (same || list_any (λ o. o == size) sizes) ≡ true → (list_any (λ o. o == size) sizes ≡ true → get_or (map f sizes) (index_in sizes size) d ≡ f size)
        → get_or (f other ∷ map f sizes) (if same then 0 else suc (index_in sizes size)) d ≡ f size
    go true e there rest = ap f (eqb-true other size e)
    go false e there rest = rest there

-- one more block
part-more : (list : List Part) (part : Part) (class size : ℕ) → class_of (part_words part) ≡ Some class → class_parts size (list ++ part ∷ []) ≡ class_parts size list + (if class == size then 1 else 0)
part-more list part class size is =
    sum_by_push (λ p. cond (is_of_class size p) 1 0) list part ∙ ap (λ (o : Option ℕ). class_parts size list + cond (unwrap_or (option_map (λ c. c == size) o) false) 1 0) is

part-other : (list : List Part) (part : Part) (class size : ℕ) → class_of (part_words part) ≡ Some class → (class == size) ≡ false → class_parts size (list ++ part ∷ []) ≡ class_parts size list
part-other list part class size is other = omega (arith, part-more list part class size is, ap {B = ℕ} (λ (b : Bool). if b then 1 else 0) other)

part-same : (list : List Part) (part : Part) (class : ℕ) → class_of (part_words part) ≡ Some class → class_parts class (list ++ part ∷ []) ≡ class_parts class list + 1
part-same list part class is = omega (arith, part-more list part class class is, ap {B = ℕ} (λ (b : Bool). if b then 1 else 0) (nat_eq_equiv.refl class))

pub counts-more : (counts : List ℕ) (list : List Part) (part : Part) (class number : ℕ) → class_of (part_words part) ≡ Some class → is_class_size class ≡ true → number ≡ class_number class
    → counts ≡ map (λ size. class_parts size list) class_sizes → set counts number (get_or counts number 0 + 1) ≡ map (λ size. class_parts size (list ++ part ∷ [])) class_sizes
unfolding is_class_size class_number apart-all
counts-more counts list part class number is sized at counted =
    ap₂ (λ (cs : List ℕ) n. set cs n (get_or cs n 0 + 1)) counted at
    ∙ ap (set (map (λ size. class_parts size list) class_sizes) (index_in class_sizes class)) (ap (λ n. n + 1) (get-counted (λ size. class_parts size list) class 0 class_sizes sized) ∙ sym (part-same list part class is))
    ∙ set-counted (λ size. class_parts size list) (λ size. class_parts size (list ++ part ∷ [])) class (λ other apart. part-other list part class other is apart) class_sizes refl

-- Pages ------------------------------------------------------------------------------------------

ceil-few : (q c s : ℕ) → 0 < s → q * s < c + s → q ≤ c
ceil-few q c s some few = elim (cases_lt c q) [
  | inl more ↦ let far : (c + 1) * s ≤ q * s = mul-le-mul_right s (omega (arith, more)) in
      let wide : c * 1 ≤ c * s = mul-le c 1 c s (omega arith) some in absurd (omega (arith, far, wide, few))
  | inr less ↦ less
]

pub pages-few : (count size : ℕ) → 1 ≤ slots_in size → pages_for size count ≤ count
pages-few count size some = ceil-few (div_ceil count (slots_in size)) count (slots_in size) some (div_ceil_times count (slots_in size) some).1

pub pages-fit : (counts : List ℕ) (number pages more total : ℕ) → number < length counts → pages ≤ sum (take number counts) → more ≤ get_or counts number 0 → total ≡ sum counts → pages + more ≤ total
pages-fit counts number pages more total inside few next is =
    omega (arith, few, next, is, sum_by_more (λ x. x) counts number 0 inside, sum_by-take-le (λ x. x) counts (number + 1))

pub pages-more : (counts : List ℕ) (number pages more : ℕ) → number < length counts → pages ≤ sum (take number counts) → more ≤ get_or counts number 0 → pages + more ≤ sum (take (number + 1) counts)
pages-more counts number pages more inside few next = omega (arith, few, next, sum_by_more (λ x. x) counts number 0 inside)

-- the blocks of an object, one by one
pub taken-next : (first parts : List Part) (index : ℕ) (part : Part) → slice_get parts index ≡ Some part → (first ++ take index parts) ++ part ∷ [] ≡ first ++ take (index + 1) parts
taken-next first parts index part at = append_assoc first (take index parts) (part ∷ []) ∙ ap (λ (list : List Part). first ++ list) (next parts index at)
  where
    next : (parts : List Part) (index : ℕ) → slice_get parts index ≡ Some part → take index parts ++ part ∷ [] ≡ take (index + 1) parts
    next parts index at =
        let cut : drop index parts ≡ part ∷ drop (suc index) parts = drop-cons parts index part (slice_get_within parts index part at) ∙ ap (λ p. p ∷ drop (suc index) parts) (get_or_from_slice_get parts index part part at) in
        sym (take-add index 1 parts ∙ ap (λ (list : List Part). take index parts ++ take 1 list) cut)
