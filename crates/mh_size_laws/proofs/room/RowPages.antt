-- The pages of a class that intervals fill, each of them by itself: as many as the largest of them fills so many times, or as all of them fill together if
-- each begins a page.
use Rattle.std.proofs.Common.{ℕ, ◌+◌, ◌-◌, ◌*◌, ◌/◌, ◌<◌, ◌≤◌, ◌≡◌, min, List, [], ◌∷◌, length, ap, ◌∙◌, arith}
use Rattle.std.proofs.{Math.Nat.{suc-mul, mul-add, mul_comm, mul-le-mul_right}, lemmas.Grind.div_ceil_times}
use Rattle.std.proofs.{lemmas.List.Sums.{sum_by-cons, sum_by-le-sum_by}, lemmas.Nat.le-div}
use Rattle.std.specs.{Int.div_ceil, List.{AllByRecursion, sum_by}}
use Rattle.mh_size_laws.proofs.openings.MadeParts.{more-pages}

-- Sums of sums -----------------------------------------------------------------------------------

sum-both : (f g : ℕ → ℕ) (sizes : List ℕ) → sum_by (λ size. f size + g size) sizes ≡ sum_by f sizes + sum_by g sizes
sum-both f g [] = omega arith
sum-both f g (size ∷ sizes) = omega (arith, sum_by-cons (λ k. f k + g k) size sizes, sum_by-cons f size sizes, sum_by-cons g size sizes, sum-both f g sizes)

-- sums over one list and another may be taken in either order
pub sum-turned : {X : Type 0} (f : X → ℕ → ℕ) (row : List X) (sizes : List ℕ) → sum_by (λ x. sum_by (f x) sizes) row ≤ sum_by (λ size. sum_by (λ x. f x size) row) sizes
sum-turned f [] sizes = omega arith
sum-turned f (first ∷ row) sizes =
    let rest : ℕ → ℕ = λ size. sum_by (λ x. f x size) row in
    omega (
      arith,
      sum_by-cons (λ x. sum_by (f x) sizes) first row,
      sum-turned f row sizes,
      sum-both (f first) rest sizes,
      sum_by-le-sum_by (λ size. f first size + rest size) (λ size. sum_by (λ x. f x size) (first ∷ row)) sizes (λ size. omega (arith, sum_by-cons (λ x. f x size) first row)),
    )

-- One class --------------------------------------------------------------------------------------

module _ {X : Type 0} (asked : X → ℕ) (slots : ℕ) where
  abbrev pages : X → ℕ
  pages x = div_ceil (asked x) slots

  pages-each : (most : ℕ) (row : List X) → 0 < slots → AllByRecursion (λ x. asked x ≤ most) row → sum_by pages row ≤ length row * div_ceil most slots
  pages-each most [] some few = omega arith
  pages-each most (x ∷ row) some few = omega (arith, sum_by-cons pages x row, more-pages slots (asked x) most some few.0, pages-each most row some few.1, suc-mul (length row) (div_ceil most slots))

  pages-together : (row : List X) → 0 < slots → slots * sum_by pages row ≤ sum_by asked row + length row * (slots - 1)
  pages-together [] some = omega arith
  pages-together (x ∷ row) some =
      let whole : slots * sum_by pages (x ∷ row) ≡ slots * pages x + slots * sum_by pages row = ap (λ n. slots * n) (sum_by-cons pages x row) ∙ mul-add slots (pages x) (sum_by pages row) in
      omega (arith, whole, mul_comm slots (pages x), (div_ceil_times (asked x) slots some).1, sum_by-cons asked x row, pages-together row some, suc-mul (length row) (slots - 1))

  -- So many intervals at most, each of at most so many blocks, and all of so many
  pub class-row : (count most all : ℕ) (row : List X) → 0 < slots → length row ≤ count → AllByRecursion (λ x. asked x ≤ most) row → sum_by asked row ≤ all
      → sum_by (λ x. div_ceil (asked x) slots) row ≤ min (count * div_ceil most slots) ((all + count * (slots - 1)) / slots)
  class-row count most all row some few each together =
      let first : sum_by pages row ≤ count * div_ceil most slots = omega (arith, pages-each most row some each, mul-le-mul_right (div_ceil most slots) few) in
      let second : sum_by pages row ≤ (all + count * (slots - 1)) / slots =
      le-div (sum_by pages row) (all + count * (slots - 1)) slots some (omega (arith, pages-together row some, mul_comm slots (sum_by pages row), mul-le-mul_right (slots - 1) few, together)) in
      omega (arith, first, second)
