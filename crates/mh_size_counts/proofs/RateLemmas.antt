-- What rates allow grows with the units, and the pages of intervals in a row are the sum over the classes.
use Rattle.std.proofs.Common.{◌≡◌, ℕ, ◌+◌, ◌*◌, ◌<◌, ◌≤◌, min, List, take, length, get_or, subst, inl, inr, arith}
use Rattle.std.proofs.{lemmas.Bool.cases_lt, lemmas.Grind.div_ceil_times, lemmas.List.get_or_past}
use Rattle.std.proofs.{lemmas.List.Sums.sum_by_more, lemmas.Nat.mul-le}
use Rattle.std.specs.{Int.div_ceil, List.{All, sum_by}}
use Rattle.mh_model.specs.Classes.{class_sizes}
use Rattle.mh_classes.specs.Numbers.{class_number}
use Rattle.mh_orders.specs.declared.rates.Rates.{Rates}
use Rattle.mh_size_laws.specs.Rates.{Grows}
use Rattle.mh_size_counts.specs.Rates.{allowed_by}

-- a quotient rounded up is no more than the number
pub ceil_few : (x s : ℕ) → 1 ≤ s → div_ceil x s ≤ x
ceil_few x s some = elim (cases_lt x (div_ceil x s)) [
  | inl more ↦
      let far : (x + 1) * s ≤ div_ceil x s * s = mul-le (x + 1) s (div_ceil x s) s (omega (arith, more)) (omega arith) in
      let wide : x * 1 ≤ x * s = mul-le x 1 x s (omega arith) some in
      absurd (omega (arith, far, wide, (div_ceil_times x s some).1))
  | inr less ↦ less
]

-- and grows with it
pub ceil_grows : (x y s : ℕ) → 1 ≤ s → x ≤ y → div_ceil x s ≤ div_ceil y s
ceil_grows x y s some more = elim (cases_lt (div_ceil y s) (div_ceil x s)) [
  | inl past ↦
      let far : (div_ceil y s + 1) * s ≤ div_ceil x s * s = mul-le (div_ceil y s + 1) s (div_ceil x s) s (omega (arith, past)) (omega arith) in
      absurd (omega (arith, far, more, (div_ceil_times x s some).1, (div_ceil_times y s some).0))
  | inr less ↦ less
]

-- Sums over the classes --------------------------------------------------------------------------

pub sum_more : (f : ℕ → ℕ) (number : ℕ) → number < 20 → sum_by f (take (number + 1) class_sizes) ≡ sum_by f (take number class_sizes) + f (get_or class_sizes number 0)
sum_more f number within = sum_by_more f class_sizes number 0 within

pub sum_all : (f : ℕ → ℕ) (number sum : ℕ) → number ≡ 20 → sum ≡ sum_by f (take number class_sizes) → sum ≡ sum_by f class_sizes
sum_all f number sum last is = subst (λ (n : ℕ). sum ≡ sum_by f (take n class_sizes)) last is

-- Rates ------------------------------------------------------------------------------------------

-- with more units
allowed_more : (burst parts units less more : ℕ) → 1 ≤ units → less ≤ more → min less (burst + div_ceil (less * parts) units) ≤ min more (burst + div_ceil (more * parts) units)
allowed_more burst parts units less more some longer =
    let made : less * parts ≤ more * parts = mul-le less parts more parts longer (omega arith) in
    omega (arith, ceil_grows (less * parts) (more * parts) units some made)

some_at : (units : List ℕ) (class : ℕ) → All (λ unit. 1 ≤ unit) units → 1 ≤ get_or units class 1
some_at units class some = elim (cases_lt class (length units)) [
  | inl inside ↦ some class 1 inside
  | inr outside ↦ omega (arith, get_or_past units class 1 outside)
]

pub rates_grow : (rates : Rates) → Grows (allowed_by rates)
unfolding allowed_by
rates_grow rates size less more longer =
    let class = class_number size in
    allowed_more (get_or rates.bursts class 0) (get_or rates.parts class 0) (get_or rates.units class 1) less more (some_at rates.units class rates.some_units) longer
