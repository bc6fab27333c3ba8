-- Bits of words: what is set after one bit is set or cleared, and the lowest.
use Rattle.std.proofs.Common.{◌≡◌, ◌≢◌, ℕ, zero, suc, ◌-◌, ◌*◌, ◌%◌, ◌^◌, ◌<◌, ◌≤◌, ◌==◌, true, false, refl, ap, arith, eq-eqb}
use Rattle.std.proofs.lemmas.Bool.{ne_eqb, eqb-true, eqb-false}
use Rattle.std.proofs.lemmas.Nat.Bits.{bit_at-zero, bit_at-lt, bit_at_set_same, bit_at_set_other, bit_at_clear_same, bit_at_clear_other, bit_at-trailing_zeros, bit_at_ones, bit_at_ones_above}
use Rattle.std.specs.Int.{bit_at, bit_not, w64, trailing_zeros, RustNames.bit_or}
use lib.Bits.{bit_and}
use mir.Val.{bits}
use Rattle.mh_bits.specs.Bits.{has_bit}

pub has_bit-zero : (i : ℕ) → has_bit 0 i ≡ false
has_bit-zero i = ap (λ b. b == 1) (bit_at-zero i)

pub has_bit-set_same : (n k : ℕ) → k < 64 → has_bit (bit_or n (1 * 2 ^ k % 2 ^ bits w64)) k ≡ true
has_bit-set_same n k h = eq-eqb _ _ (bit_at_set_same w64 n k h)

pub has_bit-set_other : (n k i : ℕ) → k < 64 → i ≢ k → has_bit (bit_or n (1 * 2 ^ k % 2 ^ bits w64)) i ≡ has_bit n i
has_bit-set_other n k i h apart = ap (λ b. b == 1) (bit_at_set_other w64 n k h i apart)

pub has_bit-clear_same : (n k : ℕ) → k < 64 → has_bit (bit_and n (bit_not w64 (1 * 2 ^ k % 2 ^ bits w64))) k ≡ false
has_bit-clear_same n k h = ap (λ b. b == 1) (bit_at_clear_same w64 n k h)

pub has_bit-clear_other : (n k i : ℕ) → k < 64 → i < 64 → i ≢ k → has_bit (bit_and n (bit_not w64 (1 * 2 ^ k % 2 ^ bits w64))) i ≡ has_bit n i
has_bit-clear_other n k i h l apart = ap (λ b. b == 1) (bit_at_clear_other w64 n k h i l apart)

-- a bit that isn't set is 0
pub bit_clear : (n i : ℕ) → has_bit n i ≡ false → bit_at n i ≡ 0
bit_clear n i e = grind arith

-- a word with a bit isn't 0
pub some_bit : (n i : ℕ) → has_bit n i ≡ true → (n == 0) ≡ false
some_bit n i e = grind arith

-- the lowest bit of a word
pub record IsLowest (n k : ℕ) : Type 0 where
  pub within : k < 64
  pub is_set : has_bit n k ≡ true
  pub none_below : (i : ℕ) → i < k → has_bit n i ≡ false

pub lowest_bit : (n : ℕ) → n ≢ 0 → n < 2 ^ 64 → IsLowest n (trailing_zeros w64 n)
lowest_bit n some small =
    let low = bit_at-trailing_zeros w64 n (omega arith) small in
    record { within = low.0; is_set = eq-eqb _ _ low.1; none_below = λ i l. ap (λ b. b == 1) (low.2 i l) }

-- the words of which just the lowest bits are set
pub has_bit-ones : (k i : ℕ) → i < k → has_bit (2 ^ k - 1) i ≡ true
has_bit-ones k i h = eq-eqb _ _ (bit_at_ones k i h)

pub has_bit-ones_above : (k i : ℕ) → k ≤ i → has_bit (2 ^ k - 1) i ≡ false
has_bit-ones_above k i h = ap (λ b. b == 1) (bit_at_ones_above k i h)
