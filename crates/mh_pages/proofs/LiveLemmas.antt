-- How many blocks a page has, by how many bits of its word of free slots are set.
use Rattle.std.proofs.Common.{◌≡◌, ◌≢◌, ℕ, zero, suc, ◌+◌, ◌*◌, ◌/◌, ◌%◌, ◌^◌, ◌<◌, ◌≤◌, ◌==◌, not, false, inl, inr, List, ◌∷◌, Option, Some, None, is_some, option_map, unwrap_or, refl, ap, ◌∙◌, sym, subst, arith}
use Rattle.std.proofs.lemmas.Bool.{cases_Bool, eqb-true, not-true, not-false}
use Rattle.std.proofs.lemmas.Nat.{ones_cat, shr-shr, shr_split, shr_below, mod_below, pow_pos}
use Rattle.std.proofs.lemmas.Nat.Bits.{bit_at-suc, bit_at-zero, bit_at_lowest, same_from_bits}
use Rattle.std.specs.Int.Count.{ones, ones-ones}
use Rattle.mh_model.specs.{Classes.{tabulate, slots_in}, Pages.{block_count, live_in}}
use Rattle.mh_bits.specs.Bits.{has_bit}
use Rattle.mh_bits.proofs.BitLemmas.{bit_clear}
use Rattle.mh_pages.specs.Auxiliary.{shown_slot, shown_page}
use Rattle.mh_pages.proofs.ShownLemmas.{free_page, used_page, empty-slot_shown, taken-slot_shown}

-- a word of which no bit from one on is set is small
pub small_word : (n k : ℕ) → ((i : ℕ) → k ≤ i → has_bit n i ≡ false) → n < 2 ^ k
small_word n k none =
    let high : n / 2 ^ k ≡ 0 = same_from_bits (n / 2 ^ k) 0 (λ i. ap (λ m. m % 2) (shr-shr n k i) ∙ (bit_clear n (k + i) (none (k + i) (omega arith)) ∙ sym (bit_at-zero i))) in
    let none_high : n / 2 ^ k * 2 ^ k ≡ 0 = ap (λ q. q * 2 ^ k) high ∙ omega arith in
    omega (arith, mod_below n (2 ^ k) (pow_pos k), none_high)

ones_none : ones 0 ≡ 0
ones_none = ones-ones 0

ones_one : ones 1 ≡ 1
ones_one = ones-ones 1

-- of each slot it is known whether it has a block
counted : {X : Type 0} (f : ℕ → Option X) (first n free : ℕ) → ((i : ℕ) → i < n → is_some (f (first + i)) ≡ not (has_bit free i)) → free < 2 ^ n → block_count (tabulate f first n) + ones free ≡ n
counted f first zero free each small = let none : free ≡ 0 = omega arith in omega (arith, ap ones none, ones_none)
counted {X = X} f first (suc n) free each small =
    let half_small : free / 2 < 2 ^ n = shr_below free n 1 (subst (λ k. free < 2 ^ k) (omega arith) small) in
    let tail : block_count (tabulate f (suc first) n) + ones (free / 2) ≡ n =
    counted f (suc first) n (free / 2) (λ i l. ap (λ k. is_some (f k)) (omega arith) ∙ (each (suc i) (omega arith) ∙ ap (λ b. not (b == 1)) (bit_at-suc free i))) half_small in
    go (f first) refl tail
  where
    split : ones free ≡ ones (free / 2) + ones (free % 2)
    split = ap ones (omega arith) ∙ ones_cat 1 (free / 2) (free % 2) (omega arith)

    lowest : is_some (f first) ≡ not (has_bit free 0)
    lowest = ap (λ k. is_some (f k)) (omega arith) ∙ each 0 (omega arith)

    go : (o : Option X) → f first ≡ o → block_count (tabulate f (suc first) n) + ones (free / 2) ≡ n → block_count (tabulate f first (suc n)) + ones free ≡ suc n
    go o e tail = grind (arith, bit_at_lowest, eqb-true, not-false, lowest, split, ones_one, bit_clear, not-true, ones_none)

-- The blocks of a page are its slots that aren't free
pub live-shown : (head free : ℕ) (words : List ℕ) (number : ℕ) → head ≢ 0 → ((slot : ℕ) → slots_in (head / 2) ≤ slot → has_bit free slot ≡ false)
    → unwrap_or (option_map live_in (shown_page head free words number)) 0 + ones free ≡ slots_in (head / 2)
live-shown head free words number used none =
    ap (λ p. unwrap_or (option_map live_in p) 0 + ones free) (used_page head free words number used)
    ∙ counted (shown_slot free words number (head / 2)) 0 (slots_in (head / 2)) free
    (grind arith)
    (small_word free (slots_in (head / 2)) none)

pub live-free : (head free : ℕ) (words : List ℕ) (number : ℕ) → head ≡ 0 → unwrap_or (option_map live_in (shown_page head free words number)) 0 ≡ 0
live-free head free words number none = grind arith
