-- The numbers of seats, weighed.
use Rattle.std.proofs.Common.{arith, ◌≡◌, ◌≢◌, ℕ, zero, suc, ◌+◌, ◌<◌, ◌≤◌, List, [], ◌∷◌, ◌++◌, length, take, drop, refl, sym, ap}
use Rattle.std.proofs.lemmas.Bool.Decides.{nat_tests}
use mathlib.Core.Option.{some, some-injective, some-ne-none}
use lib.ListN.{get_elem?}
use Rattle.mh_seat_laws.specs.{Weights.{weigh_below, total}, Lock.{Logs, weigh_numbers}}
use Rattle.mh_seat_laws.specs.declared.seat_view.SeatView.{SeatView}
use Rattle.mh_seat_laws.proofs.lock.ShownLocks.{is, none_above, part-of_total}
use Rattle.mh_lock.specs.Steps.{empty_logs}

module _ {A : Type 0} (f : A → ℕ) where
  pub two_parts-of_total : (l : List A) (i j : ℕ) (v w : A) → i ≢ j → get_elem? l i ≡ some v → get_elem? l j ≡ some w → f v + f w ≤ total f l
  two_parts-of_total [] i j v w apart there other = absurd (some-ne-none v (sym there))
  two_parts-of_total (x ∷ xs) zero zero v w apart there other = absurd (apart refl)
  two_parts-of_total (x ∷ xs) zero (suc j) v w apart there other = let same : f x ≡ f v = ap f (some-injective x v there) in omega (arith, part-of_total f xs j w other)
  two_parts-of_total (x ∷ xs) (suc i) zero v w apart there other = let same : f x ≡ f w = ap f (some-injective x w other) in omega (arith, part-of_total f xs i v there)
  two_parts-of_total (x ∷ xs) (suc i) (suc j) v w apart there other = omega (arith, two_parts-of_total xs i j v w (λ same. apart (ap suc same)) there other)

pub is-same : (n k : ℕ) → k ≡ n → is n k ≡ 1
is-same n k same = grind (arith, nat_tests)

pub at_most-one : (n m : ℕ) → weigh_below (is n) m ≤ 1
at_most-one n zero = omega arith
at_most-one n (suc m) = let r = at_most-one n m in let z = none_above n m in grind (arith, nat_tests)

pub one-below : (n m : ℕ) → n < m → weigh_below (is n) m ≡ 1
one-below n zero below = absurd (omega arith)
one-below n (suc m) below = let r = one-below n m in let z = none_above n m in grind (arith, nat_tests)

pub ones-below : (m : ℕ) → weigh_below (λ _. 1) m ≡ m
ones-below zero = refl
ones-below (suc m) = omega (arith, ones-below m)

weigh-empty : (E : Type 0) (h : ℕ → ℕ) (k n : ℕ) → weigh_numbers {E = E} h (empty_logs k n) + weigh_below h k ≡ weigh_below h (k + n)
weigh-empty E h k zero = let e : weigh_below h k ≡ weigh_below h (k + zero) = ap (weigh_below h) (omega arith) in omega arith
weigh-empty E h k (suc n) = let e : weigh_below h (suc k + n) ≡ weigh_below h (k + suc n) = ap (weigh_below h) (omega arith) in omega (arith, weigh-empty E h (suc k) n)

-- before the first split the numbers of all seats are those below their count
pub weigh-all : (E : Type 0) (h : ℕ → ℕ) (n : ℕ) → weigh_numbers {E = E} h (empty_logs 0 n) ≡ weigh_below h n
weigh-all E h n = let e : weigh_below h (0 + n) ≡ weigh_below h n = ap (weigh_below h) (omega arith) in omega (arith, weigh-empty E h 0 n)

module _ {E : Type 0} where
  pub ones-weigh_length : (logs : Logs E) → weigh_numbers (λ _. 1) logs ≡ length logs
  ones-weigh_length [] = refl
  ones-weigh_length (l ∷ ls) = omega (arith, ones-weigh_length ls)

  pub weigh-append : (h : ℕ → ℕ) (ls ms : Logs E) → weigh_numbers h (ls ++ ms) ≡ weigh_numbers h ls + weigh_numbers h ms
  weigh-append h [] ms = omega arith
  weigh-append h (l ∷ ls) ms = omega (arith, weigh-append h ls ms)

  pub weigh-cut : (h : ℕ → ℕ) (logs : Logs E) → weigh_numbers h (drop 1 logs) + weigh_numbers h (take 1 logs) ≡ weigh_numbers h logs
  weigh-cut h [] = refl
  weigh-cut h (l ∷ ls) = omega arith

  weigh-none : (h : ℕ → ℕ) (logs : Logs E) → weigh_numbers (λ _. 1) logs ≡ 0 → weigh_numbers h logs ≡ 0
  weigh-none h [] none = refl
  weigh-none h (l ∷ ls) none = absurd (omega arith)

  -- views that weigh nothing have no number
  pub views-none : {O : Type 0} (h : ℕ → ℕ) (views : List (SeatView E O)) → total (λ view. weigh_numbers (λ _. 1) view.logs) views ≡ 0 → total (λ view. weigh_numbers h view.logs) views ≡ 0
  views-none {O} h [] none = refl
  views-none {O} h (view ∷ views) none = omega (arith, views-none h views (omega arith), weigh-none h view.logs (omega arith))
