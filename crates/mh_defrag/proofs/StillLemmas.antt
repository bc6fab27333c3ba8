-- The steps that move no block.
use Rattle.std.proofs.Common.{◌≡◌, ◌≢◌, ◌⊎◌, ℕ, zero, suc, ◌+◌, ◌*◌, ◌/◌, ◌%◌, ◌^◌, ◌<◌, ◌≤◌, ◌==◌, inl, inr, Bool, true, false, if◌then◌else◌, Option, Some, None, is_some, option_map, option_and_then, unwrap_or, length, refl, sym, ap, ◌∙◌, subst, eq-eqb, arith}
use Rattle.std.proofs.{lemmas.Bool.{cases_eq, ne_eqb, true≢false}, lemmas.Option.{none-some, same_Some}}
use Rattle.std.proofs.{lemmas.Nat.Bits.{bit_at-zero, bit_at-trailing_zeros}, lemmas.Nat.{shr-shr, shr_le}}
use Rattle.std.specs.Int.{bit_at, w64, trailing_zeros}
use Rattle.mh_model.specs.Classes.{slots_in}
use Rattle.mh_model.specs.Pages.{Page, Table, page_number, slot_number, page_at, block_in, block_at, class_at, flag_at, HaveTheirSlots}
use Rattle.mh_model.specs.{Table.Block, Collector.{if_flagged, move_of, next_move, next_page, next_place, flagged_page}}
use Rattle.mh_bits.specs.Bits.{has_bit}
use Rattle.mh_defrag.specs.{Auxiliary.AreUnflagged, Moves.{AreStill, place_after}}

-- Pages that are passed ----------------------------------------------------------------------------

-- the place after so many pages
abbrev start_after : ℕ → ℕ → ℕ
start_after place zero = place
start_after place (suc k) = 64 * (place / 64 + suc k)

page-after : (place k : ℕ) → start_after place k / 64 ≡ place / 64 + k
page-after place zero = omega arith
page-after place (suc k) = omega arith

unflagged-none : (table : Table Block) (place : ℕ) → flag_at table (place / 64) ≡ false → flagged_page table place ≡ None
unflagged-none table place is = go (page_at table (place / 64)) is
  where
    go : (page : Option (Page Block)) → unwrap_or (option_map (λ used. used.is_flagged) page) false ≡ false → option_and_then if_flagged page ≡ None
    go None is = refl
    go (Some page) is = ap (λ flag. if flag then Some page else None) is

unflagged-stays : (table : Table Block) (place : ℕ) → flag_at table (place / 64) ≡ false → next_move table place ≡ None
unflagged-stays table place is = ap (option_and_then (λ page. option_and_then (move_of table page) (block_in (slot_number place) page))) (unflagged-none table place is)

pages-after : (table : Table Block) (place n : ℕ) → AreUnflagged table (place / 64) n → (k : ℕ) → k ≤ n → place_after table place k ≡ start_after place k
pages-after table place n unflagged zero few = refl
pages-after table place n unflagged (suc k) few =
    let before = pages-after table place n unflagged k (omega arith) in
    grind (arith, page-after, unflagged-none)

pub pages-still : (table : Table Block) (place count : ℕ) → AreUnflagged table (place / 64) count → count ≢ 0 → place / 64 + count ≤ length table → AreStill table place count (64 * (place / 64 + count))
pages-still table place zero unflagged some inside = absurd (some refl)
pages-still table place (suc n) unflagged some inside = grind (arith, pages-after, page-after, unflagged-stays)

-- Slots that are passed ----------------------------------------------------------------------------

-- a slot without a block
pub empty-stays : (table : Table Block) (place : ℕ) → block_at table place ≡ None → next_move table place ≡ None
empty-stays table place empty = go (page_at table (page_number place)) empty
  where
    go : (page : Option (Page Block)) → option_and_then (block_in (slot_number place)) page ≡ None → option_and_then (λ p. option_and_then (move_of table p) (block_in (slot_number place) p)) (option_and_then if_flagged page) ≡ None
    go None none = refl
    go (Some page) none = by_flag page.is_flagged
      where
        by_flag : (flag : Bool) → option_and_then (λ p. option_and_then (move_of table p) (block_in (slot_number place) p)) (if flag then Some page else None) ≡ None
        by_flag false = refl
        by_flag true = ap (option_and_then (move_of table page)) none

-- the bits below the lowest of a word that was shifted
bit-below : (word first k : ℕ) → word < 2 ^ 64 → k < trailing_zeros w64 (word / 2 ^ first) → has_bit word (first + k) ≡ false
bit-below word first k small below = ap (λ n. n % 2 == 1) (sym (shr-shr word first k)) ∙ ap (λ b. b == 1) (by_word (cases_eq (word / 2 ^ first) 0))
  where
    fits : word / 2 ^ first < 2 ^ 64
    fits = omega (arith, small, shr_le word first)

    by_word : ((word / 2 ^ first ≡ 0) ⊎ (word / 2 ^ first ≡ 0 → ⊥)) → bit_at (word / 2 ^ first) k ≡ 0
    by_word (inl none) = ap (λ n. bit_at n k) none ∙ bit_at-zero k
    by_word (inr some) = (bit_at-trailing_zeros w64 (word / 2 ^ first) (omega arith) fits).2 k below

pub none-taken : (table : Table Block) (place word k : ℕ) → word < 2 ^ 64 → ((slot : ℕ) → slot < 64 → has_bit word slot ≡ is_some (block_at table (64 * page_number place + slot)))
    → slot_number place + k < 64 → k < trailing_zeros w64 (word / 2 ^ slot_number place) → next_move table (place + k) ≡ None
none-taken table place word k small taken inside below =
    let here : 64 * page_number place + (slot_number place + k) ≡ place + k = omega arith in
    empty-stays table (place + k) (none (block_at table (place + k)) (sym (ap (λ p. is_some (block_at table p)) here) ∙ (sym (taken (slot_number place + k) inside) ∙ bit-below word (slot_number place) k small below)))
  where
    none : (content : Option Block) → is_some content ≡ false → content ≡ None
    none None e = refl
    none (Some block) e = absurd (true≢false e)

-- a page that is flagged
record IsFlagged (table : Table Block) (number size : ℕ) (page : Page Block) : Type 0 where
  pub there : page_at table number ≡ Some page
  pub flag : page.is_flagged ≡ true
  pub slots : length page.slots ≡ slots_in size

flagged-is : (table : Table Block) (number size : ℕ) → HaveTheirSlots table → class_at table number ≡ Some size → flag_at table number ≡ true → (page : Page Block) × IsFlagged table number size page
flagged-is table number size all class flag = go (page_at table number) refl class flag
  where
    go : (page : Option (Page Block)) → page_at table number ≡ page → option_map (λ p. p.class_size) page ≡ Some size → unwrap_or (option_map (λ p. p.is_flagged) page) false ≡ true → (page : Page Block) × IsFlagged table number size page
    go None at of is = absurd (none-some size of)
    go (Some page) at of is = (page, record { there = at; flag = is; slots = (all number page at).slots ∙ ap slots_in (same_Some page.class_size size of) })

flagged-there : (table : Table Block) (place size : ℕ) (page : Page Block) → IsFlagged table (place / 64) size page → flagged_page table place ≡ Some page
flagged-there table place size page is = ap (option_and_then if_flagged) is.there ∙ ap (λ flag. if flag then Some page else None) is.flag

slot-after : (table : Table Block) (place size : ℕ) (page : Page Block) → IsFlagged table (place / 64) size page → place % 64 + 1 ≢ slots_in size → next_place place (flagged_page table place) ≡ place + 1
slot-after table place size page is more = ap (next_place place) (flagged-there table place size page is) ∙ ap (λ last. if last then next_page place else place + 1) (ne_eqb (suc (place % 64)) (length page.slots) (λ e. more (omega (arith, is.slots))))

last-after : (table : Table Block) (place size : ℕ) (page : Page Block) → IsFlagged table (place / 64) size page → place % 64 + 1 ≡ slots_in size → next_place place (flagged_page table place) ≡ 64 * (place / 64 + 1)
last-after table place size page is last = ap (next_place place) (flagged-there table place size page is) ∙ ap (λ last. if last then next_page place else place + 1) (eq-eqb (suc (place % 64)) (length page.slots) (omega (arith, is.slots)))

same-page : (table : Table Block) (place k size : ℕ) (page : Page Block) → IsFlagged table (place / 64) size page → place % 64 + k < 64 → IsFlagged table ((place + k) / 64) size page
same-page table place k size page is inside = let e : place / 64 ≡ (place + k) / 64 = omega arith in subst (λ n. IsFlagged table n size page) e is

slots-after : (table : Table Block) (place size : ℕ) (page : Page Block) → IsFlagged table (place / 64) size page → slots_in size ≤ 64 → (k : ℕ) → place % 64 + k < slots_in size → place_after table place k ≡ place + k
slots-after table place size page is few zero below = omega arith
slots-after table place size page is few (suc k) below =
    let before = slots-after table place size page is few k (omega arith) in
    grind (arith, slot-after, same-page)

slots-still : (table : Table Block) (place size count next : ℕ) (page : Page Block) → IsFlagged table (place / 64) size page → slots_in size ≤ 64 → place / 64 < length table → place % 64 + count ≤ slots_in size → ((k : ℕ) → k < count → next_move table (place + k) ≡ None)
    → next ≡ place_after table place count → AreStill table place count next
slots-still table place size count next page is few inside within stay leads = grind (arith, slots-after)

pub slots-go : (table : Table Block) (place size count : ℕ) → HaveTheirSlots table → class_at table (place / 64) ≡ Some size → flag_at table (place / 64) ≡ true → slots_in size ≤ 64 → place / 64 < length table → place % 64 + count < slots_in size
    → ((k : ℕ) → k < count → next_move table (place + k) ≡ None) → AreStill table place count (place + count)
slots-go table place size count all class flag few inside within stay = grind (arith, flagged-is, flag, slots-still, slots-after)

pub slots-end : (table : Table Block) (place size count : ℕ) → HaveTheirSlots table → class_at table (place / 64) ≡ Some size → flag_at table (place / 64) ≡ true → slots_in size ≤ 64 → place / 64 < length table → place % 64 < slots_in size → place % 64 + count ≡ slots_in size
    → ((k : ℕ) → k < count → next_move table (place + k) ≡ None) → AreStill table place count (64 * (place / 64 + 1))
slots-end table place size zero all class flag few inside within last stay = absurd (omega arith)
slots-end table place size (suc n) all class flag few inside within last stay = grind (arith, flagged-is, flag, slots-after, slots-still, last-after, same-page)
