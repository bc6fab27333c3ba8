-- The table that words show: what is read in it, and what changes with one page or one word.
use Rattle.std.proofs.Common.{◌≡◌, ◌≢◌, ℕ, ◌+◌, ◌*◌, ◌/◌, ◌%◌, ◌^◌, ◌<◌, ◌≤◌, ◌==◌, ◌⊎◌, Bool, true, false, if◌then◌else◌, inl, inr, Option, Some, None, is_some, option_and_then, List, length, get_or, set, ap, ◌∙◌, sym, arith, get_or-set_same, get_or-set_other, eq-eqb}
use Rattle.std.proofs.lemmas.Bool.{cases_eq, cases_lt, cases_Bool, ne_eqb, eqb-true, or_cases, true≢false}
use Rattle.std.proofs.{lemmas.Option.none-some, lemmas.List.length-set, lemmas.Nat.Bits.shr_and_one}
use lib.Bits.{bit_and}
use Rattle.mh_model.specs.{Classes.slots_in, Pages.{Table, page_number, slot_number, page_at, block_at, block_in}}
use Rattle.mh_model.proofs.TabulateLemmas.{length-tabulate, get_or-tabulate, get_or-tabulate_past, tabulate_same, tabulate-set}
use Rattle.mh_bits.specs.Bits.{has_bit}
use Rattle.mh_bits.proofs.BitLemmas.{bit_clear}
use Rattle.mh_classes.proofs.ClassLemmas.{IsClass, class_is}
use Rattle.mh_pages.specs.Auxiliary.{words_from, shown_slot, shown_slots, page_of, shown_page, page_shown, shown_table, is_head}
use Rattle.mh_pages.specs.Words.{words_at}

-- Reading ----------------------------------------------------------------------------------------

pub length-shown : (heads frees words : List ℕ) → length (shown_table heads frees words) ≡ length heads
unfolding shown_table
length-shown heads frees words = length-tabulate (page_shown heads frees words) 0 (length heads)

pub page_at-shown : (heads frees words : List ℕ) (number : ℕ) → number < length heads → page_at (shown_table heads frees words) number ≡ page_shown heads frees words number
unfolding shown_table
page_at-shown heads frees words number h = grind (arith, get_or-tabulate)

pub page_at-shown_past : (heads frees words : List ℕ) (number : ℕ) → length heads ≤ number → page_at (shown_table heads frees words) number ≡ None
unfolding shown_table
page_at-shown_past heads frees words number h = get_or-tabulate_past (page_shown heads frees words) 0 (length heads) number None h

-- a head that isn't 0 has a class
pub head_class : (head : ℕ) → is_head head ≡ true → head ≢ 0 → IsClass (head / 2)
head_class head is some = elim (or_cases _ _ is) [ inl none ↦ absurd (some (eqb-true _ _ none)) | inr class ↦ class_is (head / 2) class ]

pub free_page : (head free : ℕ) (words : List ℕ) (number : ℕ) → head ≡ 0 → shown_page head free words number ≡ None
free_page head free words number e = grind arith

pub used_page : (head free : ℕ) (words : List ℕ) (number : ℕ) → head ≢ 0 → shown_page head free words number ≡ Some (page_of (head / 2) (head % 2 == 1) (shown_slots free words number (head / 2)))
used_page head free words number e = ap (λ b. if b then None else Some (page_of (head / 2) (head % 2 == 1) (shown_slots free words number (head / 2)))) (ne_eqb _ _ e)

pub empty-slot_shown : (free : ℕ) (words : List ℕ) (number size slot : ℕ) → has_bit free slot ≡ true → shown_slot free words number size slot ≡ None
empty-slot_shown free words number size slot e = grind arith

pub taken-slot_shown : (free : ℕ) (words : List ℕ) (number size slot : ℕ) → has_bit free slot ≡ false → shown_slot free words number size slot ≡ Some (words_from words (256 * number + slot * size) size)
taken-slot_shown free words number size slot e = grind arith

-- Changes -----------------------------------------------------------------------------------------

-- words that agree on a page
abbrev pub AgreeOn : ℕ → List ℕ → List ℕ → Type 0
AgreeOn number words new = (i : ℕ) → 256 * number ≤ i → i < 256 * number + 256 → get_or new i 0 ≡ get_or words i 0

-- a word of a slot lies in its page
pub in_page : (size slot i : ℕ) → IsClass size → slot < slots_in size → i < size → slot * size + i < 256
in_page size slot i class within small = grind arith

-- blocks whose words agree are one
pub words_from-same : (words new : List ℕ) (first count : ℕ) → ((i : ℕ) → i < count → get_or new (first + i) 0 ≡ get_or words (first + i) 0) → words_from new first count ≡ words_from words first count
words_from-same words new first count agree = grind (arith, tabulate_same)

-- a page is shown alike if the words agree on it
pub page-same : (head free number : ℕ) (words new : List ℕ) → is_head head ≡ true → AgreeOn number words new → shown_page head free new number ≡ shown_page head free words number
page-same head free number words new is agree = elim (cases_eq head 0) [
  | inl none ↦ free_page head free new number none ∙ sym (free_page head free words number none)
  | inr some ↦
      used_page head free new number some
      ∙ (ap (λ slots. Some (page_of (head / 2) (head % 2 == 1) slots))
      (tabulate_same (shown_slot free new number (head / 2)) (shown_slot free words number (head / 2)) 0 (slots_in (head / 2))
      (λ slot a b. ap (λ block. if has_bit free slot then None else Some block)
      (words_from-same words new (256 * number + slot * (head / 2)) (head / 2) (λ i small.
      let within : slot < slots_in (head / 2) = omega arith in
      let inside = in_page (head / 2) slot i (head_class head is some) within small in agree (256 * number + slot * (head / 2) + i) (omega arith) (omega (arith, inside)))))))
      ∙ sym (used_page head free words number some)
]

-- One page changed: its head and its word of free slots
pub shown-set : (heads frees words : List ℕ) (number head free : ℕ) → number < length heads → length frees ≡ length heads
    → shown_table (set heads number head) (set frees number free) words ≡ set (shown_table heads frees words) number (shown_page head free words number)
unfolding shown_table
shown-set heads frees words number head free within sizes = search (arith, length-set, tabulate-set, get_or-set_other, get_or-set_same)

-- Words of one page changed
pub shown-words : (heads frees words new : List ℕ) (number : ℕ) → ((other : ℕ) → is_head (get_or heads other 0) ≡ true) → ((other : ℕ) → other ≢ number → AgreeOn other words new)
    → shown_table heads frees new ≡ set (shown_table heads frees words) number (page_shown heads frees new number)
unfolding shown_table
shown-words heads frees words new number are agree =
    tabulate-set (page_shown heads frees words) (page_shown heads frees new) 0 (length heads) number (page_shown heads frees new number)
    (λ other a b apart. page-same (get_or heads other 0) (get_or frees other 0) other words new (are other) (agree other (λ e. apart (omega arith))))
    (λ h. ap (page_shown heads frees new) (omega arith))

-- The same with the class and the flag by name
pub used_page_of : (head free : ℕ) (words : List ℕ) (number size : ℕ) (flag : Bool) → head ≢ 0 → head / 2 ≡ size → (head % 2 == 1) ≡ flag → shown_page head free words number ≡ Some (page_of size flag (shown_slots free words number size))
used_page_of head free words number size flag some is_size is_flag = grind (arith, used_page)

-- one slot of a page changed
pub slots-set : (free new_free : ℕ) (words new : List ℕ) (number size slot : ℕ) (content : Option (List ℕ))
    → ((other : ℕ) → other < slots_in size → other ≢ slot → shown_slot new_free new number size other ≡ shown_slot free words number size other)
    → (slot < slots_in size → shown_slot new_free new number size slot ≡ content)
    → shown_slots new_free new number size ≡ set (shown_slots free words number size) slot content
slots-set free new_free words new number size slot content others here = grind (arith, tabulate-set)

-- a slot is shown alike if its bit and its words are alike
pub slot-same : (free new_free : ℕ) (words new : List ℕ) (number size slot : ℕ) → has_bit new_free slot ≡ has_bit free slot
    → ((i : ℕ) → i < size → get_or new (256 * number + slot * size + i) 0 ≡ get_or words (256 * number + slot * size + i) 0)
    → shown_slot new_free new number size slot ≡ shown_slot free words number size slot
slot-same free new_free words new number size slot bit agree = grind (arith, words_from-same)

-- Places with a block -----------------------------------------------------------------------------

-- a place has a block, told by the words
pub record IsTaken (heads frees : List ℕ) (place : ℕ) : Type 0 where
  pub inside : place / 64 < length heads
  pub used : get_or heads (place / 64) 0 ≢ 0
  pub within : place % 64 < slots_in (get_or heads (place / 64) 0 / 2)
  pub taken : has_bit (get_or frees (place / 64) 0) (place % 64) ≡ false

no_page : (table : Table (List ℕ)) (place : ℕ) → page_at table (page_number place) ≡ None → block_at table place ≡ None
no_page table place e = ap (option_and_then (block_in (slot_number place))) e

-- the block of a page in use
block_of_page : (heads frees words : List ℕ) (place : ℕ) → place / 64 < length heads → get_or heads (place / 64) 0 ≢ 0
    → block_at (shown_table heads frees words) place ≡ get_or (shown_slots (get_or frees (place / 64) 0) words (place / 64) (get_or heads (place / 64) 0 / 2)) (place % 64) None
block_of_page heads frees words place inside used = grind (arith, page_at-shown, used_page)

pub slot_at : (free : ℕ) (words : List ℕ) (number size slot : ℕ) → slot < slots_in size → get_or (shown_slots free words number size) slot None ≡ shown_slot free words number size slot
slot_at free words number size slot within = grind (arith, get_or-tabulate)

pub block_at-shown : (heads frees words : List ℕ) (place : ℕ) → IsTaken heads frees place
    → block_at (shown_table heads frees words) place ≡ Some (words_from words (256 * (place / 64) + (place % 64) * (get_or heads (place / 64) 0 / 2)) (get_or heads (place / 64) 0 / 2))
block_at-shown heads frees words place is = grind (arith, block_of_page, slot_at, taken-slot_shown)

-- if a block is shown there is one in the words
pub taken_place : (heads frees words : List ℕ) (place : ℕ) → block_at (shown_table heads frees words) place ≢ None → IsTaken heads frees place
taken_place heads frees words place some = by_page (cases_lt (place / 64) (length heads))
  where
    by_slot : (inside : place / 64 < length heads) (used : get_or heads (place / 64) 0 ≢ 0) (within : place % 64 < slots_in (get_or heads (place / 64) 0 / 2)) → ((has_bit (get_or frees (place / 64) 0) (place % 64) ≡ true) ⊎ (has_bit (get_or frees (place / 64) 0) (place % 64) ≡ false)) → IsTaken heads frees place
    by_slot inside used within is = grind (arith, block_of_page, slot_at, empty-slot_shown)

    by_head : (inside : place / 64 < length heads) → ((get_or heads (place / 64) 0 ≡ 0) ⊎ (get_or heads (place / 64) 0 ≡ 0 → ⊥)) → IsTaken heads frees place
    by_head inside is = grind (arith, no_page, page_at-shown, free_page, cases_lt, by_slot, cases_Bool, block_of_page, get_or-tabulate_past)

    by_page : (place / 64 < length heads) ⊎ (length heads ≤ place / 64) → IsTaken heads frees place
    by_page is = grind (arith, by_head, cases_eq, no_page, page_at-shown_past)

-- a word that a block shows
pub record IsWord (heads frees : List ℕ) (place index : ℕ) : Type 0 where
  pub place_taken : IsTaken heads frees place
  pub in_block : index < get_or heads (place / 64) 0 / 2

pub word_taken : (heads frees words : List ℕ) (place index : ℕ) → index < length (words_at (shown_table heads frees words) place) → IsWord heads frees place index
word_taken heads frees words place index within = grind (arith, taken_place, block_at-shown, length-tabulate)

-- Reading a word
pub word-shown : (heads frees words : List ℕ) (place index : ℕ) → IsWord heads frees place index
    → get_or (words_at (shown_table heads frees words) place) index 0 ≡ get_or words (256 * (place / 64) + (place % 64) * (get_or heads (place / 64) 0 / 2) + index) 0
word-shown heads frees words place index is = grind (arith, block_at-shown, get_or-tabulate)

-- Whether a place has a block ---------------------------------------------------------------------

pub not_taken : (heads frees words : List ℕ) (place : ℕ) → (IsTaken heads frees place → ⊥) → false ≡ is_some (block_at (shown_table heads frees words) place)
not_taken heads frees words place none = grind (arith, taken_place, none-some)

pub bit_told : (heads frees words : List ℕ) (place : ℕ) → place / 64 < length heads → get_or heads (place / 64) 0 ≢ 0 → place % 64 < slots_in (get_or heads (place / 64) 0 / 2)
    → (bit_and (get_or frees (place / 64) 0 / 2 ^ (place % 64)) 1 == 0) ≡ is_some (block_at (shown_table heads frees words) place)
bit_told heads frees words place inside used within = elim (cases_Bool (has_bit (get_or frees (place / 64) 0) (place % 64))) [
  | inl free ↦ grind (arith, ne_eqb, shr_and_one, eqb-true, not_taken, true≢false)
  | inr taken ↦ grind (arith, eq-eqb, shr_and_one, bit_clear, block_at-shown)
]
