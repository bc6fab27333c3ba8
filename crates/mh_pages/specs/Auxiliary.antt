-- Auxiliary definitions: what loops, private functions and the insides of types keep. No public contract depends on them.
use Rattle.std.specs.Prelude.{◌≡◌, ◌≤◌, ℕ, zero, suc, ◌+◌, ◌*◌, ◌%◌, ◌<◌, ◌==◌, ◌&&◌, ◌||◌, not, if◌then◌else◌, Bool, true, false, nat_lt, List, length, get_or, set, ◌/◌, Option, Some, None, ◌⊎◌}
use Rattle.mh_model.specs.{Classes.{is_class_size, tabulate, slots_in}, Pages.{Page, Table, free_pages}}
use Rattle.mh_bits.specs.{Sets.has_member, Bits.has_bit}
use Rattle.mh_classes.specs.Numbers.{class_number}

-- The sets of pages that the search for a place reads: set 60 has the free pages, and each class has three: its unflagged pages, those of them with a free slot, and its flagged pages with a free slot.

-- whether a page with this head and these free slots belongs to a set of a class
abbrev pub belongs : ℕ → ℕ → ℕ → ℕ → Bool
belongs zero head free size = head == 2 * size
belongs (suc zero) head free size = (head == 2 * size) && not (free == 0)
belongs (suc (suc kind)) head free size = (head == 2 * size + 1) && not (free == 0)

-- Each set has just the pages that belong to it. Past the last page there is none: a head of 1 stands for it there
pub record IsIndexed (heads frees : List ℕ) (sets : List Bool) : Type 0 where
  pub free : (number : ℕ) → number < 4096 → has_member sets 60 number ≡ (get_or heads number 1 == 0)
  pub classes : (kind size number : ℕ) → kind < 3 → is_class_size size ≡ true → number < 4096
      → has_member sets (3 * class_number size + kind) number ≡ belongs kind (get_or heads number 1) (get_or frees number 0) size

-- the sets with a page put in one or taken from it
abbrev pub put_in : List Bool → ℕ → ℕ → Bool → List Bool
put_in sets row page is_member = set sets (4096 * row + page) is_member

-- the sets with a page of a class in those to which it belongs by its head and its free slots
unfoldable pub indexed_again : List Bool → ℕ → ℕ → ℕ → ℕ → List Bool
indexed_again sets page size head free =
    put_in (put_in (put_in (put_in sets 60 page (head == 0))
    (3 * class_number size + 0) page (belongs 0 head free size))
    (3 * class_number size + 1) page (belongs 1 head free size))
    (3 * class_number size + 2) page (belongs 2 head free size)

-- the sets after the free slots of a page in use have changed: with its first free slot it enters one of the sets of its class, by its flag, and with its last it leaves it
abbrev pub indexed_after : List Bool → ℕ → ℕ → ℕ → ℕ → ℕ → List Bool
indexed_after sets page size head before after = if (before == 0) || (after == 0) then put_in sets (3 * class_number size + (1 + head % 2)) page (not (after == 0)) else sets

-- the lengths that a page's head, its word of free slots and its sets need
pub record HasLengthsFor (page : ℕ) (heads frees : List ℕ) (sets : List Bool) : Type 0 where
  pub within : page < length heads
  pub few : length heads ≤ 4096
  pub as_many_frees : length frees ≡ length heads
  pub as_many_sets : length sets ≡ 4096 * 61

-- the sets before any page is taken: all pages are free
pub record AllFree (sets : List Bool) (pages : ℕ) : Type 0 where
  pub lengths : length sets ≡ 4096 * 61
  pub free : (number : ℕ) → number < 4096 → has_member sets 60 number ≡ nat_lt number pages
  pub others : (row number : ℕ) → row < 60 → number < 4096 → has_member sets row number ≡ false

-- The table that the words of pages show. A page has a head, which is 0 if it is free, and else twice its class and 1 more if it is flagged.
-- It has a word with a bit for each slot that has no block, and 256 words for its blocks.

-- so many words from one on
abbrev pub words_from : List ℕ → ℕ → ℕ → List ℕ
words_from words first count = tabulate (λ i. get_or words (first + i) 0) 0 count

-- a slot of a page
abbrev pub shown_slot : ℕ → List ℕ → ℕ → ℕ → ℕ → Option (List ℕ)
shown_slot free words number size slot = if has_bit free slot then None else Some (words_from words (256 * number + slot * size) size)

-- the slots of a page of this class, in order
abbrev pub shown_slots : ℕ → List ℕ → ℕ → ℕ → List (Option (List ℕ))
shown_slots free words number size = tabulate (shown_slot free words number size) 0 (slots_in size)

-- a page with this class, this flag and these slots
abbrev pub page_of : ℕ → Bool → List (Option (List ℕ)) → Page (List ℕ)
page_of size is_flagged slots = record { class_size = size; is_flagged = is_flagged; slots = slots }

-- a page by its head, and none if it is free
abbrev pub shown_page : ℕ → ℕ → List ℕ → ℕ → Option (Page (List ℕ))
shown_page head free words number = if head == 0 then None else Some (page_of (head / 2) (head % 2 == 1) (shown_slots free words number (head / 2)))

-- the page of this number
abbrev pub page_shown : List ℕ → List ℕ → List ℕ → ℕ → Option (Page (List ℕ))
page_shown heads frees words number = shown_page (get_or heads number 0) (get_or frees number 0) words number

-- The table that heads, words of free slots and words of blocks show
unfoldable pub shown_table : List ℕ → List ℕ → List ℕ → Table (List ℕ)
shown_table heads frees words = tabulate (page_shown heads frees words) 0 (length heads)

-- What pages keep: the invariant of `Pages`.

-- a head is 0, or has a class
abbrev pub is_head : ℕ → Bool
is_head head = (head == 0) || is_class_size (head / 2)

-- page by page: a head, and no free slot past those of its class
pub record ArePages (heads frees : List ℕ) : Type 0 where
  pub are_heads : (number : ℕ) → is_head (get_or heads number 0) ≡ true
  pub no_more_slots : (number slot : ℕ) → slots_in (get_or heads number 0 / 2) ≤ slot → has_bit (get_or frees number 0) slot ≡ false

-- as many of each kind of words as the pages need
pub record AreSized (heads frees words : List ℕ) (sets : List Bool) : Type 0 where
  pub few_pages : length heads ≤ 4096
  pub as_many_frees : length frees ≡ length heads
  pub as_many_words : length words ≡ 256 * length heads
  pub as_many_sets : length sets ≡ 4096 * 61

-- all that is kept: the words that pages need, their heads and free slots, their indexes, and how many pages are free
pub record AreStored (heads frees words : List ℕ) (sets : List Bool) (free : ℕ) : Type 0 where
  pub sized : AreSized heads frees words sets
  pub pages : ArePages heads frees
  pub indexed : IsIndexed heads frees sets
  pub free_count : free ≡ free_pages (shown_table heads frees words)

-- words that differ at most from one on to before another
pub record AgreeOutside (old new : List ℕ) (first end : ℕ) : Type 0 where
  pub lengths : length new ≡ length old
  pub before : (i : ℕ) → i < first → get_or new i 0 ≡ get_or old i 0
  pub after : (i : ℕ) → end ≤ i → get_or new i 0 ≡ get_or old i 0

-- so many words from one on are now what they were from another on, and the others are as they were
pub record IsCopied (old new : List ℕ) (source first count : ℕ) : Type 0 where
  pub copied : (i : ℕ) → i < count → get_or new (first + i) 0 ≡ get_or old (source + i) 0
  pub others : AgreeOutside old new first (first + count)

-- so many words from one on and from another on have none in common
abbrev pub AreApart : ℕ → ℕ → ℕ → Type 0
AreApart source first count = (source + count ≤ first) ⊎ (first + count ≤ source)
