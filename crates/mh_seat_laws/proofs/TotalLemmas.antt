-- Totals of lists of which one value changes.
use Rattle.std.proofs.Common.{arith, ◌≡◌, ℕ, zero, suc, ◌+◌, List, [], ◌∷◌, ◌++◌, set, sym, ap}
use mathlib.Core.Option.{some, some-injective, some-ne-none}
use lib.ListN.{get_elem?}
use Rattle.mh_seat_laws.specs.Weights.{total}

module _ {A : Type 0} (f : A → ℕ) where
  -- one value is exchanged for another
  pub total-set : (l : List A) (i : ℕ) (v w : A) → get_elem? l i ≡ some v → total f (set l i w) + f v ≡ total f l + f w
  total-set [] i v w there = absurd (some-ne-none v (sym there))
  total-set (x ∷ xs) zero v w there = let same : f x ≡ f v = ap f (some-injective x v there) in omega arith
  total-set (x ∷ xs) (suc i) v w there = omega (arith, total-set xs i v w there)

  -- one value more
  pub total-append_one : (l : List A) (v : A) → total f (l ++ v ∷ []) ≡ total f l + f v
  total-append_one [] v = omega arith
  total-append_one (x ∷ xs) v = omega (arith, total-append_one xs v)
