-- What is kept of pages through each change.
use Rattle.std.proofs.Common.{◌≡◌, ◌≢◌, ℕ, ◌+◌, ◌-◌, ◌*◌, ◌/◌, ◌%◌, ◌^◌, ◌<◌, ◌≤◌, ◌==◌, ◌⊎◌, Bool, true, false, inl, inr, Option, Some, None, is_some, IsSome, option_map, List, length, get_or, set, refl, ap, ◌∙◌, sym, subst, arith}
use Rattle.std.proofs.lemmas.Bool.{cases_eq, cases_lt, cases_Bool, ne_eqb, or_right, false≢true}
use Rattle.std.proofs.{lemmas.Option.none-some, lemmas.List.{length-set, set-get_or}}
use Rattle.std.proofs.lemmas.Nat.Bits.{bit_at_and, ones_shr}
use mir.Val.{bool_byte}
use Rattle.mh_model.specs.Classes.{is_class_size, slots_in}
use Rattle.mh_model.specs.Pages.{Table, page_at, block_at, class_at, flag_at, page_with, page_for, with_block, with_taken, with_flag, free_pages, IsFreeFor, HasItsSlots, HaveTheirSlots}
use Rattle.mh_model.proofs.TabulateLemmas.{length-tabulate}
use Rattle.mh_bits.specs.Bits.{has_bit}
use Rattle.mh_bits.proofs.BitLemmas.{has_bit-zero, has_bit-ones_above, has_bit-set_other, bit_clear}
use Rattle.mh_bits.proofs.SetLemmas.{with_bit, without_bit}
use Rattle.mh_classes.proofs.ClassLemmas.{IsClass, class_is}
use Rattle.mh_pages.specs.Auxiliary.{words_from, shown_slots, page_of, shown_page, shown_table, IsIndexed, indexed_again, indexed_after, HasLengthsFor, is_head, AgreeOutside, AreStored}
use Rattle.mh_pages.specs.{Words.{words_at, with_word}, Addresses.{Address, address_in}}
use Rattle.mh_pages.proofs.ShownLemmas.{length-shown, page_at-shown, page_at-shown_past, block_at-shown, head_class, free_page, used_page, used_page_of, shown-set, IsTaken, IsWord, word_taken, taken_place}
use Rattle.mh_pages.proofs.WriteLemmas.{shown-block, shown-word, slots-released, slots-taken, slots-fresh, written_inside}
use Rattle.mh_pages.proofs.IndexLemmas.{indexed-set, indexed-after, pages-set, length-indexed_again, length-indexed_after}
use Rattle.mh_pages.proofs.CountLemmas.{free_pages-taken, free_pages-same, free_pages-freed, free_pages-some, free_pages-few}
use Rattle.mh_table_laws.proofs.placing.Places.{block_at-with_taken_same}

-- a bit that isn't set isn't set after another is cleared
has_bit-less : (n k i : ℕ) → has_bit n i ≡ false → has_bit (without_bit n k) i ≡ false
has_bit-less n k i e = grind (arith, ne_eqb, bit_at_and, bit_clear)

-- a word of which as many bits are set as a page has slots
pub full_word : (slots : ℕ) → slots ≤ 64 → (2 ^ 64 - 1) / 2 ^ (64 - slots) ≡ 2 ^ slots - 1
full_word slots few =
    ones_shr 64 (64 - slots) (omega arith) ∙ ap (λ n. 2 ^ n - 1) (omega arith)

-- a head with another flag
pub record IsMarked (old head : ℕ) (flag : Bool) : Type 0 where
  pub some : head ≢ 0
  pub same : head / 2 ≡ old / 2
  pub is_flag : (head % 2 == 1) ≡ flag

pub marked : (old : ℕ) (flag : Bool) → 4 ≤ old / 2 → IsMarked old (old / 2 * 2 + bool_byte flag) flag
marked old flag few = grind arith

-- what stands at a place that was taken is its block
pub told_taken : (old new : Table (List ℕ)) (size place : ℕ) (block : List ℕ) → IsFreeFor old size place → new ≡ with_taken old size place block → new ≡ with_taken old size place (words_at new place)
told_taken old new size place block is taken = grind (arith, block_at-with_taken_same)

module _ (heads frees words : List ℕ) (sets : List Bool) (free : ℕ) (kept : AreStored heads frees words sets free) where
  -- Pages in use, places with a block, and words of blocks --------------------------------------

  pub record IsUsed (page : ℕ) : Type 0 where
    pub inside : page < length heads
    pub used : get_or heads page 0 ≢ 0

  pub used_of : (table : Table (List ℕ)) (page : ℕ) → shown_table heads frees words ≡ table → IsSome (page_at table page) → IsUsed page
  used_of table page shown some = by_page (cases_lt page (length heads))
    where
      not_none : page_at (shown_table heads frees words) page ≢ None
      not_none e = false≢true (sym (ap is_some e) ∙ (ap (λ t. is_some (page_at t page)) shown ∙ some))

      by_page : (page < length heads) ⊎ (length heads ≤ page) → IsUsed page
      by_page (inl inside) = record { inside = inside; used = λ e. absurd (not_none (page_at-shown heads frees words page inside ∙ free_page _ _ words page e)) }
      by_page (inr past) = absurd (not_none (page_at-shown_past heads frees words page past))

  pub class_used : (page : ℕ) → get_or heads page 0 ≢ 0 → is_class_size (get_or heads page 0 / 2) ≡ true
  class_used page used = grind arith

  pub size_used : (page : ℕ) → get_or heads page 0 ≢ 0 → IsClass (get_or heads page 0 / 2)
  size_used page used = head_class _ (kept.pages.are_heads page) used

  pub block_of : (table : Table (List ℕ)) (place : ℕ) → shown_table heads frees words ≡ table → IsSome (block_at table place) → IsTaken heads frees place
  block_of table place shown some = grind (arith, taken_place, false≢true)

  pub word_of : (table : Table (List ℕ)) (place index : ℕ) → shown_table heads frees words ≡ table → index < length (words_at table place) → IsWord heads frees place index
  word_of table place index shown within = word_taken heads frees words place index (subst (λ t. index < length (words_at t place)) (sym shown) within)

  pub inside_of : (table : Table (List ℕ)) (page : ℕ) → shown_table heads frees words ≡ table → page < length table → page < length heads
  inside_of table page shown within = omega (arith, within, ap length shown, length-shown heads frees words)

  pub room : (page : ℕ) → page < length heads → HasLengthsFor page heads frees sets
  room page inside = grind arith

  -- no more pages are free than there are
  pub free_few : free ≤ 4096
  free_few = grind (arith, free_pages-few, length-shown)

  page_used : (page : ℕ) → IsUsed page → page_at (shown_table heads frees words) page ≡ Some (page_of (get_or heads page 0 / 2) (get_or heads page 0 % 2 == 1) (shown_slots (get_or frees page 0) words page (get_or heads page 0 / 2)))
  page_used page is = page_at-shown heads frees words page is.inside ∙ used_page _ _ words page is.used

  pub their_slots : HaveTheirSlots (shown_table heads frees words)
  their_slots number page at = by_page (cases_lt number (length heads))
    where
      of_used : IsUsed number → HasItsSlots page
      of_used is = grind (arith, page_used, class_used, length-tabulate)

      by_page : (number < length heads) ⊎ (length heads ≤ number) → HasItsSlots page
      by_page is = grind (arith, none-some, page_at-shown_past, cases_eq, page_at-shown, free_page, of_used)

  -- the class and the flag of a page
  pub class_shown : (page : ℕ) → IsUsed page → class_at (shown_table heads frees words) page ≡ Some (get_or heads page 0 / 2)
  class_shown page is = ap (option_map (λ used. used.class_size)) (page_used page is)

  pub class_none : (page : ℕ) → page < length heads → get_or heads page 0 ≡ 0 → class_at (shown_table heads frees words) page ≡ None
  class_none page inside none = grind (arith, page_at-shown, free_page)

  pub flag_shown : (page : ℕ) → page < length heads → flag_at (shown_table heads frees words) page ≡ (get_or heads page 0 % 2 == 1)
  flag_shown page inside = grind (arith, cases_eq, page_at-shown, free_page, ne_eqb, page_used)

  -- Words of a block written ---------------------------------------------------------------------

  -- the first word of the block at a place
  abbrev pub start : ℕ → ℕ
  start place = 256 * (place / 64) + (place % 64) * (get_or heads (place / 64) 0 / 2)

  abbrev pub size_at : ℕ → ℕ
  size_at place = get_or heads (place / 64) 0 / 2

  pub start_few : (place : ℕ) → IsTaken heads frees place → start place + size_at place ≤ length words
  start_few place is = grind arith

  pub address_shown : (place : ℕ) → IsTaken heads frees place → address_in (shown_table heads frees words) place ≡ record { place = place; word = start place }
  address_shown place is = grind (arith, class_shown)

  pub word_at : (table : Table (List ℕ)) (address : Address) → shown_table heads frees words ≡ table → address ≡ address_in table address.place → IsTaken heads frees address.place → address.word ≡ start address.place
  word_at table address shown at is = grind (arith, address_shown)

  -- a block has at least the words of its header
  pub header_words : (table : Table (List ℕ)) (place : ℕ) → shown_table heads frees words ≡ table → IsSome (block_at table place) → 4 ≤ length (words_at table place)
  header_words table place shown some = grind (arith, block_of, size_used, block_at-shown, length-tabulate)

  free_pages-with_block : (place : ℕ) (content : Option (List ℕ)) → IsTaken heads frees place → free_pages (with_block (shown_table heads frees words) place content) ≡ free_pages (shown_table heads frees words)
  free_pages-with_block place content is = grind (arith, page_used, free_pages-same)

  pub kept-block : (place : ℕ) (new : List ℕ) → IsTaken heads frees place → AgreeOutside words new (start place) (start place + size_at place) → AreStored heads frees new sets free
  kept-block place new is agree = record {
    sized = grind arith;
    pages = kept.pages;
    indexed = kept.indexed;
    free_count = kept.free_count ∙ (sym (free_pages-with_block place _ is) ∙ ap free_pages (sym (shown-block heads frees words place kept.pages new is agree)));
  }

  pub word_within : (place index : ℕ) → IsWord heads frees place index → start place + index < length words
  word_within place index is = omega (arith, start_few place is.place_taken, is.in_block)

  -- One word
  pub kept-word : (place index word : ℕ) → IsWord heads frees place index → AreStored heads frees (set words (start place + index) word) sets free
  kept-word place index word is = kept-block place _ is.place_taken (written_inside words (start place + index) word (start place) (start place + size_at place) (omega arith) (omega (arith, is.in_block)))

  pub word_shown : (place index word : ℕ) → IsWord heads frees place index → shown_table heads frees (set words (start place + index) word) ≡ with_word (shown_table heads frees words) place index word
  word_shown place index word is = grind (arith, shown-word)

  -- One page changed -----------------------------------------------------------------------------

  kept-set : (page head new_free count : ℕ) (new_sets : List Bool) → page < length heads → is_head head ≡ true → ((slot : ℕ) → slots_in (head / 2) ≤ slot → has_bit new_free slot ≡ false)
      → IsIndexed (set heads page head) (set frees page new_free) new_sets → length new_sets ≡ length sets
      → count ≡ free_pages (set (shown_table heads frees words) page (shown_page head new_free words page))
      → AreStored (set heads page head) (set frees page new_free) words new_sets count
  kept-set page head new_free count new_sets inside is none indexed same counted = grind (arith, length-set, pages-set, shown-set)

  -- a page that is in use before and after
  kept-used : (page head new_free : ℕ) (new_sets : List Bool) → IsUsed page → head ≢ 0 → is_head head ≡ true → ((slot : ℕ) → slots_in (head / 2) ≤ slot → has_bit new_free slot ≡ false)
      → IsIndexed (set heads page head) (set frees page new_free) new_sets → length new_sets ≡ length sets
      → AreStored (set heads page head) (set frees page new_free) words new_sets free
  kept-used page head new_free new_sets is some is_head none indexed same =
      kept-set page head new_free free new_sets is.inside is_head none indexed same
      (kept.free_count
      ∙ (sym (free_pages-same (shown_table heads frees words) page _ _ (page_used page is))
      ∙ ap (λ p. free_pages (set (shown_table heads frees words) page p)) (sym (used_page head new_free words page some))))

  -- the free slots of a page in use changed
  pub kept-free : (page new_free : ℕ) → IsUsed page → ((slot : ℕ) → slots_in (get_or heads page 0 / 2) ≤ slot → has_bit new_free slot ≡ false)
      → AreStored heads (set frees page new_free) words (indexed_after sets page (get_or heads page 0 / 2) (get_or heads page 0) (get_or frees page 0) new_free) free
  kept-free page new_free is none =
      subst (λ h. AreStored h (set frees page new_free) words (indexed_after sets page (get_or heads page 0 / 2) (get_or heads page 0) (get_or frees page 0) new_free) free) (set-get_or heads page 0)
      (kept-used page (get_or heads page 0) new_free _ is is.used (kept.pages.are_heads page) none
      (indexed-after heads frees sets page (get_or heads page 0 / 2) new_free kept.indexed kept.sized.as_many_sets is.inside kept.sized.few_pages kept.sized.as_many_frees (class_used page is.used) refl)
      (length-indexed_after sets page (get_or heads page 0 / 2) (get_or heads page 0) (get_or frees page 0) new_free))

  shown-free : (page new_free : ℕ) → IsUsed page
      → shown_table heads (set frees page new_free) words ≡ set (shown_table heads frees words) page (Some (page_of (get_or heads page 0 / 2) (get_or heads page 0 % 2 == 1) (shown_slots new_free words page (get_or heads page 0 / 2))))
  shown-free page new_free is =
      ap (λ h. shown_table h (set frees page new_free) words) (sym (set-get_or heads page 0))
      ∙ (grind (arith, shown-set, used_page))

  -- A page in use with a flag
  pub flagged_shown : (page head : ℕ) (flag : Bool) → IsUsed page → head ≢ 0 → head / 2 ≡ get_or heads page 0 / 2 → (head % 2 == 1) ≡ flag
      → shown_table (set heads page head) (set frees page (get_or frees page 0)) words ≡ with_flag (shown_table heads frees words) page flag
  flagged_shown page head flag is some same is_flag = grind (arith, shown-set, used_page_of, page_used)

  pub kept-flagged : (page head : ℕ) → IsUsed page → head ≢ 0 → head / 2 ≡ get_or heads page 0 / 2
      → AreStored (set heads page head) (set frees page (get_or frees page 0)) words (indexed_again sets page (get_or heads page 0 / 2) head (get_or frees page 0)) free
  kept-flagged page head is some same =
      let class = class_used page is.used in
      kept-used page head (get_or frees page 0) _ is some (or_right _ _ (ap is_class_size same ∙ class))
      (λ slot past. kept.pages.no_more_slots page slot (subst (λ s. slots_in s ≤ slot) same past))
      (indexed-set heads frees sets page (get_or heads page 0 / 2) head (get_or frees page 0) kept.indexed kept.sized.as_many_sets is.inside kept.sized.few_pages kept.sized.as_many_frees class (inr refl) (inr same))
      (length-indexed_again sets page (get_or heads page 0 / 2) head (get_or frees page 0))

  -- A page without blocks freed
  pub freed_shown : (page : ℕ) → IsUsed page → shown_table (set heads page 0) (set frees page 0) words ≡ set (shown_table heads frees words) page None
  freed_shown page is = shown-set heads frees words page 0 0 is.inside kept.sized.as_many_frees

  pub kept-freed : (page : ℕ) → IsUsed page → AreStored (set heads page 0) (set frees page 0) words (indexed_again sets page (get_or heads page 0 / 2) 0 0) (free + 1)
  kept-freed page is =
      kept-set page 0 0 (free + 1) _ is.inside refl (λ slot past. has_bit-zero slot)
      (indexed-set heads frees sets page (get_or heads page 0 / 2) 0 0 kept.indexed kept.sized.as_many_sets is.inside kept.sized.few_pages kept.sized.as_many_frees (class_used page is.used) (inr refl) (inl refl))
      (length-indexed_again sets page (get_or heads page 0 / 2) 0 0)
      (omega (arith, kept.free_count, free_pages-freed (shown_table heads frees words) page _ (page_used page is)))

  module _ (place : ℕ) where
    abbrev a_page : ℕ
    a_page = place / 64

    abbrev a_slot : ℕ
    a_slot = place % 64

    abbrev a_head : ℕ
    a_head = get_or heads (place / 64) 0

    abbrev a_free : ℕ
    a_free = get_or frees (place / 64) 0

    -- A slot given back
    pub released_shown : IsTaken heads frees place → shown_table heads (set frees a_page (with_bit a_free a_slot)) words ≡ with_block (shown_table heads frees words) place None
    released_shown is = grind (arith, shown-free, with_bit, slots-released, page_used)

    pub kept-released : IsTaken heads frees place
        → AreStored heads (set frees a_page (with_bit a_free a_slot)) words (indexed_after sets a_page (a_head / 2) a_head a_free (with_bit a_free a_slot)) free
    kept-released is =
        kept-free a_page (with_bit a_free a_slot) (record { inside = is.inside; used = is.used })
        (λ slot past. has_bit-set_other a_free a_slot slot (omega arith) (λ e. absurd (omega (arith, is.within))) ∙ kept.pages.no_more_slots a_page slot past)

    -- Places that are free for a class -----------------------------------------------------------

    pub free_within : (size : ℕ) → IsFreeFor (shown_table heads frees words) size place → a_page < length heads
    free_within size is = omega (arith, is.inside, length-shown heads frees words)

    record FreeUsed (size : ℕ) : Type 0 where
      pub page_is_used : IsUsed a_page
      pub same : a_head / 2 ≡ size
      pub within : a_slot < slots_in (a_head / 2)
      pub bit : has_bit a_free a_slot ≡ true

    free_used : (size : ℕ) → IsFreeFor (shown_table heads frees words) size place → a_head ≢ 0 → FreeUsed size
    free_used size is used = grind (arith, free_within, page_used, length-tabulate, cases_Bool, none-some, block_at-shown)

    -- the words at a place that is free for a class
    abbrev block_there : ℕ → List ℕ
    block_there size = words_from words (256 * (place / 64) + (place % 64) * size) size

    -- A place taken in a page in use
    pub taken_shown_used : (size : ℕ) → IsFreeFor (shown_table heads frees words) size place → a_head ≢ 0
        → shown_table heads (set frees a_page (without_bit a_free a_slot)) words ≡ with_taken (shown_table heads frees words) size place (words_at (shown_table heads (set frees a_page (without_bit a_free a_slot)) words) place)
    taken_shown_used size is used = grind (arith, free_used, size_used, told_taken, shown-free, without_bit, slots-taken, page_used)

    pub kept-taken_used : (size : ℕ) → IsFreeFor (shown_table heads frees words) size place → a_head ≢ 0
        → AreStored heads (set frees a_page (without_bit a_free a_slot)) words (indexed_after sets a_page size a_head a_free (without_bit a_free a_slot)) free
    kept-taken_used size is used =
        let its = free_used size is used in
        subst (λ s. AreStored heads (set frees a_page (without_bit a_free a_slot)) words (indexed_after sets a_page s a_head a_free (without_bit a_free a_slot)) free) its.same
        (kept-free a_page (without_bit a_free a_slot) its.page_is_used
        (λ slot past. has_bit-less a_free a_slot slot (kept.pages.no_more_slots a_page slot past)))

    -- A place taken in a free page
    fresh_page : (size : ℕ) → is_class_size size ≡ true → IsFreeFor (shown_table heads frees words) size place → a_head ≡ 0
        → shown_page (2 * size) (without_bit (2 ^ slots_in size - 1) a_slot) words a_page ≡ Some (page_with a_slot (Some (block_there size)) (page_for size (page_at (shown_table heads frees words) a_page)))
    fresh_page size class is none =
        let inside = free_within size is in
        let its = class_is size class in
        grind (arith, used_page_of, without_bit, ne_eqb, slots-taken, slots-fresh, page_at-shown, free_page)

    pub taken_shown_fresh : (size : ℕ) → is_class_size size ≡ true → IsFreeFor (shown_table heads frees words) size place → a_head ≡ 0
        → shown_table (set heads a_page (2 * size)) (set frees a_page (without_bit (2 ^ slots_in size - 1) a_slot)) words ≡ with_taken (shown_table heads frees words) size place (words_at (shown_table (set heads a_page (2 * size)) (set frees a_page (without_bit (2 ^ slots_in size - 1) a_slot)) words) place)
    taken_shown_fresh size class is none = grind (arith, told_taken, shown-set, without_bit, free_within, fresh_page)

    pub kept-taken_fresh : (size : ℕ) → is_class_size size ≡ true → IsFreeFor (shown_table heads frees words) size place → a_head ≡ 0
        → AreStored (set heads a_page (2 * size)) (set frees a_page (without_bit (2 ^ slots_in size - 1) a_slot)) words (indexed_again sets a_page size (2 * size) (without_bit (2 ^ slots_in size - 1) a_slot)) (free - 1)
    kept-taken_fresh size class is none =
        let inside = free_within size is in
        let half : 2 * size / 2 ≡ size = omega arith in
        kept-set a_page (2 * size) (without_bit (2 ^ slots_in size - 1) a_slot) (free - 1) _ inside
        (or_right (2 * size == 0) (is_class_size (2 * size / 2)) (ap is_class_size half ∙ class))
        (λ slot past. has_bit-less (2 ^ slots_in size - 1) a_slot slot (has_bit-ones_above (slots_in size) slot (subst (λ s. slots_in s ≤ slot) half past)))
        (indexed-set heads frees sets a_page size (2 * size) (without_bit (2 ^ slots_in size - 1) a_slot) kept.indexed kept.sized.as_many_sets inside kept.sized.few_pages kept.sized.as_many_frees class (inl none) (inr half))
        (length-indexed_again sets a_page size (2 * size) (without_bit (2 ^ slots_in size - 1) a_slot))
        (grind (arith, fresh_page, free_pages-taken, length-shown, page_at-shown, free_page))

    pub fresh_counted : (size : ℕ) → IsFreeFor (shown_table heads frees words) size place → a_head ≡ 0 → 0 < free
    fresh_counted size is none = grind (arith, free_within, free_pages-some, length-shown, page_at-shown, free_page)

-- a place that is free for a class, told of the words
pub free_of : (heads frees words : List ℕ) (table : Table (List ℕ)) (size place : ℕ) → shown_table heads frees words ≡ table → IsFreeFor table size place → IsFreeFor (shown_table heads frees words) size place
free_of heads frees words table size place shown is = subst (λ t. IsFreeFor t size place) (sym shown) is
