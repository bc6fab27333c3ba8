-- How many places of a page are free for a class, by its words, and how many of all pages.
use Rattle.std.proofs.Common.{◌≡◌, ◌≢◌, ℕ, zero, suc, ◌+◌, ◌/◌, ◌<◌, ◌≤◌, ◌==◌, if◌then◌else◌, false, List, [], ◌∷◌, Option, Some, None, option_map, unwrap_or, length, take, refl, ap, ◌∙◌, arith, eq-eqb}
use Rattle.std.proofs.lemmas.Bool.{ne_eqb}
use Rattle.std.specs.Int.Count.{ones}
use Rattle.mh_model.specs.{Classes.slots_in, Pages.{Table, page_at, block_count, live_in}}
use Rattle.mh_model.proofs.TabulateLemmas.{length-tabulate}
use Rattle.mh_bits.specs.Bits.{has_bit}
use Rattle.mh_pages.specs.FreePlaces.{empty_count, free_in, free_places}
use Rattle.mh_pages.specs.Auxiliary.{shown_slot, shown_slots, shown_page}
use Rattle.mh_pages.proofs.{ShownLemmas.{free_page, used_page}, LiveLemmas.live-shown}

module _ {X : Type 0} where
  -- each slot has a block or has none
  pub empty_count-blocks : (slots : List (Option X)) → empty_count slots + block_count slots ≡ length slots
  empty_count-blocks [] = refl
  empty_count-blocks (None ∷ slots) = omega (arith, empty_count-blocks slots)
  empty_count-blocks (Some block ∷ slots) = omega (arith, empty_count-blocks slots)

  -- one page more
  pub free_places-more : (table : Table X) (size number : ℕ) → number < length table → free_places (take (number + 1) table) size ≡ free_places (take number table) size + free_in size (page_at table number)
  free_places-more table size number within =
      let next : number + 1 ≡ suc number = omega arith in
      ap (λ n. free_places (take n table) size) next ∙ go table number within
    where
      go : (table : Table X) (number : ℕ) → number < length table → free_places (take (suc number) table) size ≡ free_places (take number table) size + free_in size (page_at table number)
      go [] number within = absurd (omega arith)
      go (page ∷ table) zero within = omega arith
      go (page ∷ table) (suc number) within = omega (arith, go table number (omega arith))

-- A page by its words
module _ (head free : ℕ) (words : List ℕ) (number size : ℕ) where
  pub free_in-free : head ≡ 0 → free_in size (shown_page head free words number) ≡ slots_in size
  free_in-free none = ap (free_in size) (free_page head free words number none)

  free_in-used : head ≢ 0 → free_in size (shown_page head free words number) ≡ (if head / 2 == size then empty_count (shown_slots free words number (head / 2)) else 0)
  free_in-used used = ap (free_in size) (used_page head free words number used)

  pub free_in-other : head ≢ 0 → head / 2 ≢ size → free_in size (shown_page head free words number) ≡ 0
  free_in-other used other = free_in-used used ∙ ap (λ b. if b then empty_count (shown_slots free words number (head / 2)) else 0) (ne_eqb _ _ other)

  pub free_in-class : head ≢ 0 → head / 2 ≡ size → ((slot : ℕ) → slots_in (head / 2) ≤ slot → has_bit free slot ≡ false) → free_in size (shown_page head free words number) ≡ ones free
  free_in-class used same none =
      free_in-used used
      ∙ (ap (λ b. if b then empty_count (shown_slots free words number (head / 2)) else 0) (eq-eqb _ _ same)
      ∙ omega (
        arith,
        empty_count-blocks (shown_slots free words number (head / 2)),
        length-tabulate (shown_slot free words number (head / 2)) 0 (slots_in (head / 2)),
        live-shown head free words number used none,
        ap (λ p. unwrap_or (option_map live_in p) 0) (used_page head free words number used),
      ))
