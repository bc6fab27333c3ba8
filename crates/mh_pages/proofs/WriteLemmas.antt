-- What the words show after each change: a block written, a place taken or given back.
use Rattle.std.proofs.Common.{◌≡◌, ◌≢◌, ℕ, suc, ◌+◌, ◌-◌, ◌*◌, ◌/◌, ◌%◌, ◌^◌, ◌<◌, ◌≤◌, ◌==◌, ◌⊎◌, inl, inr, Option, Some, None, List, length, get_or, set, replicate, ap, ◌∙◌, arith, get_or-set_same, get_or-set_other}
use Rattle.std.proofs.{lemmas.Bool.cases_lt, lemmas.List.length-set, Math.Nat.mul-le-mul_right}
use Rattle.mh_model.specs.{Classes.slots_in, Pages.{Table, page_with, with_block}}
use Rattle.mh_model.proofs.TabulateLemmas.{tabulate_same, tabulate-set, tabulate-replicate}
use Rattle.mh_bits.specs.Bits.{IsZeroed}
use Rattle.mh_bits.proofs.BitLemmas.{has_bit-ones, has_bit-set_same, has_bit-set_other, has_bit-clear_same, has_bit-clear_other}
use Rattle.mh_bits.proofs.SetLemmas.{with_bit, without_bit}
use Rattle.mh_pages.specs.Auxiliary.{words_from, shown_slots, page_of, shown_table, ArePages, AgreeOutside, IsCopied}
use Rattle.mh_pages.specs.Words.{with_word}
use Rattle.mh_pages.proofs.ShownLemmas.{page_at-shown, used_page, empty-slot_shown, taken-slot_shown, shown-words, slots-set, slot-same, IsTaken, block_at-shown}

-- a slot ends before a later one begins
pub slot_before : (size slot other i : ℕ) → slot < other → i < size → slot * size + i < other * size
slot_before size slot other i less small = grind arith

-- and what lies in its page is a slot of it
pub fits_slot : (size slot : ℕ) → 0 < size → (slot + 1) * size ≤ 256 → slot < slots_in size
fits_slot size slot some fits = grind arith

-- the words from one on to before another set to 0, or one of them written
pub zeroed_inside : (old new : List ℕ) (first end : ℕ) → IsZeroed old new first end → AgreeOutside old new first end
zeroed_inside old new first end is = record { lengths = is.lengths; before = is.before; after = is.after }

pub written_inside : (words : List ℕ) (at word first end : ℕ) → first ≤ at → at < end → AgreeOutside words (set words at word) first end
written_inside words at word first end from under = grind (arith, length-set, get_or-set_other)

module _ (heads frees words : List ℕ) (place : ℕ) (are : ArePages heads frees) where
  abbrev pub the_page : ℕ
  the_page = place / 64

  abbrev pub the_slot : ℕ
  the_slot = place % 64

  abbrev pub the_head : ℕ
  the_head = get_or heads (place / 64) 0

  abbrev pub the_free : ℕ
  the_free = get_or frees (place / 64) 0

  abbrev pub the_size : ℕ
  the_size = get_or heads (place / 64) 0 / 2

  abbrev pub the_start : ℕ
  the_start = 256 * (place / 64) + (place % 64) * (get_or heads (place / 64) 0 / 2)

  -- the block of a place that is taken lies in its page
  pub block_fits : IsTaken heads frees place → the_slot * the_size + the_size ≤ 256
  block_fits is = grind arith

  -- the table with another content of the slot, if its page is in use
  pub with_slot : (content : Option (List ℕ)) (new_table : Table (List ℕ)) → the_page < length heads → the_head ≢ 0
      → new_table ≡ set (shown_table heads frees words) the_page (Some (page_with the_slot content (page_of the_size (the_head % 2 == 1) (shown_slots the_free words the_page the_size))))
      → new_table ≡ with_block (shown_table heads frees words) place content
  with_slot content new_table inside used e = grind (arith, page_at-shown, used_page)

  -- Words of a block written
  pub shown-block : (new : List ℕ) → IsTaken heads frees place → AgreeOutside words new the_start (the_start + the_size)
      → shown_table heads frees new ≡ with_block (shown_table heads frees words) place (Some (words_from new the_start the_size))
  shown-block new is agree =
      with_slot _ _ is.inside is.used
      (shown-words heads frees words new the_page are.are_heads (λ other apart i a b. other_page other i apart a b (cases_lt i the_start))
      ∙ ap (set (shown_table heads frees words) the_page)
      (grind (arith, used_page, slots-set, slot-same, other_slot, cases_lt, taken-slot_shown)))
    where
      other_page : (other i : ℕ) → other ≢ the_page → 256 * other ≤ i → i < 256 * other + 256 → (i < the_start) ⊎ (the_start ≤ i) → get_or new i 0 ≡ get_or words i 0
      other_page other i apart a b (inl before) = agree.before i before
      other_page other i apart a b (inr from) = agree.after i (omega (arith, block_fits is))

      other_slot : (other i : ℕ) → other ≢ the_slot → i < the_size → (other < the_slot) ⊎ (the_slot ≤ other) → get_or new (256 * the_page + other * the_size + i) 0 ≡ get_or words (256 * the_page + other * the_size + i) 0
      other_slot other i apart small (inl less) = agree.before _ (omega (arith, slot_before the_size other the_slot i less small))
      other_slot other i apart small (inr more) =
          let rows : suc the_slot * the_size ≤ other * the_size = mul-le-mul_right the_size (omega arith) in
          agree.after _ (omega (arith, rows))

  -- A word written
  pub shown-word : (index word : ℕ) → length words ≡ 256 * length heads → IsTaken heads frees place → index < the_size
      → shown_table heads frees (set words (the_start + index) word) ≡ with_word (shown_table heads frees words) place index word
  shown-word index word all is small =
      shown-block (set words (the_start + index) word) is (written_inside words (the_start + index) word the_start (the_start + the_size) (omega arith) (omega arith))
      ∙ ap (with_block (shown_table heads frees words) place)
      (grind (arith, go, block_at-shown))
    where
      go : (start : ℕ) → the_start ≡ start → words_from (set words (start + index) word) start the_size ≡ set (words_from words start the_size) index word
      go start is_start = grind (arith, tabulate-set, get_or-set_other, get_or-set_same, block_fits)

  -- A block copied over another
  pub shown-copied : (new : List ℕ) (source : ℕ) → IsTaken heads frees place → IsCopied words new source the_start the_size
      → shown_table heads frees new ≡ with_block (shown_table heads frees words) place (Some (words_from words source the_size))
  shown-copied new source is copied = grind (arith, shown-block, tabulate_same)

  -- A block whose words are set to 0
  pub shown-zeroed : (new : List ℕ) → IsTaken heads frees place → IsZeroed words new the_start (the_start + the_size)
      → shown_table heads frees new ≡ with_block (shown_table heads frees words) place (Some (replicate the_size 0))
  shown-zeroed new is zeroed = grind (arith, shown-block, zeroed_inside, tabulate-replicate)

  -- What a page shows ------------------------------------------------------------------------------

  -- one bit of the word of free slots set
  pub slots-released : shown_slots (with_bit the_free the_slot) words the_page the_size ≡ set (shown_slots the_free words the_page the_size) the_slot None
  slots-released = grind (arith, slots-set, with_bit, slot-same, has_bit-set_other, empty-slot_shown, has_bit-set_same)

  -- one bit cleared
  pub slots-taken : (size old_free : ℕ) → slots_in size ≤ 64
      → shown_slots (without_bit old_free the_slot) words the_page size ≡ set (shown_slots old_free words the_page size) the_slot (Some (words_from words (256 * the_page + the_slot * size) size))
  slots-taken size old_free few = grind (arith, slots-set, without_bit, slot-same, has_bit-clear_other, taken-slot_shown, has_bit-clear_same)

  -- the slots of a page for a class that was free
  pub slots-fresh : (size : ℕ) → shown_slots (2 ^ slots_in size - 1) words the_page size ≡ replicate (slots_in size) None
  slots-fresh size = grind (arith, tabulate-replicate, empty-slot_shown, has_bit-ones)
