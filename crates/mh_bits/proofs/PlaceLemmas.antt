-- Sets of places: a bit changed, all cleared, and the word of a page.
use Rattle.std.proofs.Common.{◌≡◌, ℕ, zero, suc, ◌+◌, ◌*◌, ◌/◌, ◌%◌, ◌<◌, ◌≤◌, ◌^◌, ◌==◌, Bool, true, false, List, length, get_or, set, replicate, refl, ap, nat_eq, ◌∙◌, sym, arith}
use Rattle.std.proofs.{lemmas.List.get_or_default, lemmas.Nat.Bits.shr_and_one}
use Rattle.std.specs.Int.{bit_not, w64, RustNames.bit_or}
use lib.Bits.{bit_and}
use Rattle.mh_model.specs.Classes.{tabulate}
use mir.Val.{bits}
use Rattle.mh_bits.specs.{Bits.has_bit, Auxiliary.{has_bit_among, bits_of}}
use Rattle.mh_model.proofs.TabulateLemmas.{tabulate-replicate}
use Rattle.mh_bits.proofs.BitLemmas.{has_bit-zero, has_bit-set_same, has_bit-set_other, has_bit-clear_same, has_bit-clear_other}
use Rattle.mh_bits.proofs.SetLemmas.{length-bits_of, get_or-bits_of, bits_of-set}

pub page_within : (words : List ℕ) (places : List Bool) (place : ℕ) → bits_of words ≡ places → place < length places → place / 64 < length words
page_within words places place shown within = omega (arith, length-bits_of words, ap length shown)

-- a word read at any default
word_there : (words : List ℕ) (page word : ℕ) → page < length words → word ≡ get_or words page word → word ≡ get_or words page 0
word_there words page word within is = is ∙ get_or_default words page word 0 within

place_again : (place : ℕ) → 64 * (place / 64) + place % 64 ≡ place
place_again place = omega arith

-- The steps of the code: `word` is that of the page of a place.
module _ (words : List ℕ) (places : List Bool) (place word : ℕ) (shown : bits_of words ≡ places) (within : place < length places) (is : word ≡ get_or words (place / 64) word) where
  read : word ≡ get_or words (place / 64) 0
  read = word_there words (place / 64) word (page_within words places place shown within) is

  pub bit_read : nat_eq (bit_and (word / 2 ^ (place % 64)) 1) 1 ≡ get_or places place false
  bit_read = grind (arith, shr_and_one, read, get_or-bits_of, page_within)

  pub bit_inserted : bits_of (set words (place / 64) (bit_or word (1 * 2 ^ (place % 64) % 2 ^ bits w64))) ≡ set places place true
  bit_inserted = grind (arith, bits_of-set, page_within, has_bit-set_same, has_bit-set_other, read, place_again)

  pub bit_removed : bits_of (set words (place / 64) (bit_and word (bit_not w64 (1 * 2 ^ (place % 64) % 2 ^ bits w64)))) ≡ set places place false
  bit_removed = grind (arith, bits_of-set, page_within, has_bit-clear_same, has_bit-clear_other, read, place_again)

length-zeros : (n : ℕ) → length {A = ℕ} (replicate n 0) ≡ n
length-zeros zero = refl
length-zeros (suc n) = ap suc (length-zeros n)

zero_at : (n k : ℕ) → get_or {A = ℕ} (replicate n 0) k 0 ≡ 0
zero_at (suc n) (suc k) = zero_at n k
zero_at n k = refl

pub none_there : (count : ℕ) → bits_of (replicate count 0) ≡ replicate (64 * count) false
unfolding bits_of
none_there count = grind (arith, length-zeros, tabulate-replicate, zero_at, has_bit-zero)

pub none_left : (words : List ℕ) (places : List Bool) (count : ℕ) → bits_of words ≡ places → count ≡ length words → bits_of (replicate count 0) ≡ replicate (length places) false
none_left words places count shown long = grind (arith, none_there, length-bits_of)

-- the word of a page
module _ (words : List ℕ) (places : List Bool) (page : ℕ) (shown : bits_of words ≡ places) (within : 64 * page + 64 ≤ length places) where
  pub word_within : page < length words
  word_within = omega (arith, length-bits_of words, ap length shown)

  pub bits_there : (word slot : ℕ) → word ≡ get_or words page word → slot < 64 → has_bit word slot ≡ get_or places (64 * page + slot) false
  bits_there word slot is small = grind (arith, word_there, word_within, get_or-bits_of)
