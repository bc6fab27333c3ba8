-- The slots of a page that have a block, by the bits of its word of free slots.
use Rattle.std.proofs.Common.{◌≡◌, ◌≢◌, ℕ, ◌+◌, ◌-◌, ◌*◌, ◌/◌, ◌%◌, ◌^◌, ◌<◌, ◌≤◌, true, false, inl, inr, List, is_some, length, get_or, ap, ◌∙◌, sym, subst, arith, eq-eqb}
use Rattle.std.proofs.lemmas.Bool.{cases_lt, cases_Bool, ne_eqb, eqb-true, true≢false}
use Rattle.std.proofs.lemmas.Nat.Bits.{bit_at_and, bit_at_not}
use Rattle.std.specs.Int.{bit_not, w64}
use lib.Bits.{bit_and}
use Rattle.mh_model.specs.{Classes.slots_in, Pages.block_at}
use Rattle.mh_bits.specs.Bits.{has_bit}
use Rattle.mh_bits.proofs.BitLemmas.{bit_clear, has_bit-zero, has_bit-ones, has_bit-ones_above}
use Rattle.mh_pages.specs.Auxiliary.{shown_table}
use Rattle.mh_pages.proofs.ShownLemmas.{block_at-shown, not_taken}

-- a bit of a word that isn't set in another, among so many bits
bit_taken : (free count slot : ℕ) → free < 2 ^ 64 → slot < 64 → slot < count → has_bit free slot ≡ false → has_bit (bit_and (bit_not w64 free) (2 ^ count - 1)) slot ≡ true
bit_taken free count slot small few within clear =
    eq-eqb _ _ (omega (
      arith,
      bit_at_and (bit_not w64 free) (2 ^ count - 1) slot,
      bit_at_not w64 free slot small few,
      bit_clear free slot clear,
      eqb-true _ _ (has_bit-ones count slot within),
    ))

bit_free : (free count slot : ℕ) → free < 2 ^ 64 → slot < 64 → has_bit free slot ≡ true → has_bit (bit_and (bit_not w64 free) (2 ^ count - 1)) slot ≡ false
bit_free free count slot small few is_set =
    ne_eqb _ _ (grind (arith, bit_at_and (bit_not w64 free) (2 ^ count - 1) slot, bit_at_not w64 free slot small few, eqb-true _ _ is_set))

bit_past : (free count slot : ℕ) → count ≤ slot → has_bit (bit_and (bit_not w64 free) (2 ^ count - 1)) slot ≡ false
bit_past free count slot past = grind (arith, ne_eqb, bit_at_and, bit_clear, has_bit-ones_above)

module _ (heads frees words : List ℕ) where
  -- by a place of the page
  at_place : (place : ℕ) → place / 64 < length heads → get_or heads (place / 64) 0 ≢ 0 → get_or frees (place / 64) 0 < 2 ^ 64
      → has_bit (bit_and (bit_not w64 (get_or frees (place / 64) 0)) (2 ^ slots_in (get_or heads (place / 64) 0 / 2) - 1)) (place % 64) ≡ is_some (block_at (shown_table heads frees words) place)
  at_place place inside used small = grind (arith, cases_lt, bit_past, not_taken, cases_Bool, bit_free, true≢false, bit_taken, block_at-shown)

  pub slots_told : (page slot : ℕ) → page < length heads → get_or heads page 0 ≢ 0 → get_or frees page 0 < 2 ^ 64 → slot < 64
      → has_bit (bit_and (bit_not w64 (get_or frees page 0)) (2 ^ slots_in (get_or heads page 0 / 2) - 1)) slot ≡ is_some (block_at (shown_table heads frees words) (64 * page + slot))
  slots_told page slot inside used small few =
      let row : (64 * page + slot) / 64 ≡ page = omega arith in
      let column : (64 * page + slot) % 64 ≡ slot = omega arith in
      grind (arith, at_place)

  pub no_slots_told : (page slot : ℕ) → get_or heads page 0 ≡ 0 → slot < 64 → has_bit 0 slot ≡ is_some (block_at (shown_table heads frees words) (64 * page + slot))
  no_slots_told page slot none few = grind (arith, has_bit-zero, not_taken)
