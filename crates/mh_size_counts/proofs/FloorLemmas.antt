-- The floor of a window falls as the quantum grows, and grows with the units of the mutator between two quanta. For any number of rounds it is at most the
-- units of the mutator in these, or what one quantum more than these leaves of the window. For the whole rounds of the window it is just that.
use Rattle.std.proofs.Common.{◌≡◌, ℕ, suc, ◌+◌, ◌-◌, ◌*◌, ◌/◌, ◌%◌, ◌<◌, ◌≤◌, max, ap, inl, inr, arith}
use Rattle.std.proofs.{Math.Nat.{mod-add-div, mod-lt}, lemmas.Nat.mul-le, lemmas.Bool.cases_order}
use Rattle.mh_model.specs.Trace.{floor}

most : (m k a s rounds : ℕ) → s < m + k → m * a + (s - k) ≤ max (m * rounds) (s + (m + k) * a - k * suc rounds)
most m k a s rounds left = elim (cases_order a rounds) [
  | inl same ↦ let own : m * a ≡ m * rounds = ap (λ n. m * n) same in let others : k * a ≡ k * rounds = ap (λ n. k * n) same in omega (arith, own, others)
  | inr (inl less) ↦ let far : m * suc a ≤ m * rounds = mul-le m (suc a) m rounds (omega arith) less in omega (arith, far)
  | inr (inr more) ↦ let far : k * suc rounds ≤ k * a = mul-le k (suc rounds) k a (omega arith) more in omega (arith, far)
]

pub floor_most : (m k window rounds : ℕ) → 1 ≤ m + k → floor m k window ≤ max (m * rounds) (window - k * suc rounds)
floor_most m k window rounds some =
    omega (arith, most m k (window / (m + k)) (window % (m + k)) rounds (mod-lt window some), mod-add-div window (m + k))

pub floor_is : (m k window : ℕ) → floor m k window ≡ max (m * (window / (m + k))) (window - k * suc (window / (m + k)))
floor_is m k window = omega (arith, mod-add-div window (m + k))

pub floor_falls : (m k l window : ℕ) → 1 ≤ m → k ≤ l → floor m l window ≤ floor m k window
floor_falls m k l window some longer =
    let rounds = window / (m + k) in
    let more : k * suc rounds ≤ l * suc rounds = mul-le k (suc rounds) l (suc rounds) longer (omega arith) in
    omega (arith, more, floor_most m l window rounds (omega (arith, some)), floor_is m k window)

pub floor_grows : (m n k window : ℕ) → 1 ≤ k → m ≤ n → floor m k window ≤ floor n k window
floor_grows m n k window some longer =
    let rounds = window / (n + k) in
    let more : m * rounds ≤ n * rounds = mul-le m rounds n rounds longer (omega arith) in
    omega (arith, more, floor_most m k window rounds (omega (arith, some)), floor_is n k window)
