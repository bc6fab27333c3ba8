-- How many blocks of a table pass a test, and so how many there are and how many are forwarders, as the table changes.
use Rattle.std.proofs.Common.{◌≡◌, ℕ, zero, suc, ◌+◌, ◌*◌, ◌<◌, ◌≤◌, Bool, true, false, if◌then◌else◌, List, [], ◌∷◌, length, filter, set, get_or, replicate, Option, Some, None, option_map, option_and_then, unwrap_or, refl, sym, ap, ◌∙◌, arith}
use Rattle.std.proofs.{lemmas.Option.none-some, lemmas.List.length-append, lemmas.List.Elements.filter-append}
use Rattle.mh_model.specs.Classes.{slots_in}
use Rattle.mh_model.specs.Pages.{Page, Table, page_number, slot_number, page_at, block_in, block_at, block_count, live_in, count_at, page_with, with_block, page_for, with_taken, with_released, with_flag, HasItsSlots, HaveTheirSlots, IsFreeFor}
use Rattle.mh_model.specs.{Table.Block, Machine.{blocks_in, blocks_of}}
use Rattle.mh_classes.proofs.ClassLemmas.{class_is}
use Rattle.mh_table_laws.proofs.{Lists.below_length, placing.Places.block_in-page_for}

-- Lists --------------------------------------------------------------------------------------------

-- how many of these blocks pass a test
abbrev pub passing : (Block → Bool) → List Block → ℕ
passing test blocks = length (filter test blocks)

-- 1 if a block is there that passes
abbrev pub one : (Block → Bool) → Option Block → ℕ
one test None = 0
one test (Some block) = if test block then 1 else 0

-- how many blocks of a page pass, none of a free one
abbrev pub in_page : (Block → Bool) → Option (Page Block) → ℕ
in_page test None = 0
in_page test (Some page) = passing test (blocks_in page.slots)

-- how many blocks of a table pass
abbrev pub in_table : (Block → Bool) → Table Block → ℕ
in_table test table = passing test (blocks_of table)

passing-cons : (test : Block → Bool) (block : Block) (blocks : List Block) → passing test (block ∷ blocks) ≡ one test (Some block) + passing test blocks
passing-cons test block blocks = go (test block) refl
  where
    go : (answer : Bool) → test block ≡ answer → passing test (block ∷ blocks) ≡ one test (Some block) + passing test blocks
    go true is = rw is (omega arith)
    go false is = rw is (omega arith)

slots-cons : (test : Block → Bool) (slot : Option Block) (slots : List (Option Block)) → passing test (blocks_in (slot ∷ slots)) ≡ one test slot + passing test (blocks_in slots)
slots-cons test None slots = omega arith
slots-cons test (Some block) slots = passing-cons test block (blocks_in slots)

pages-cons : (test : Block → Bool) (page : Option (Page Block)) (table : Table Block) → in_table test (page ∷ table) ≡ in_page test page + in_table test table
pages-cons test None table = omega arith
pages-cons test (Some page) table = ap length (filter-append test (blocks_in page.slots) (blocks_of table)) ∙ length-append (filter test (blocks_in page.slots)) (filter test (blocks_of table))

-- One slot or one page exchanged -------------------------------------------------------------------

slots-set : (test : Block → Bool) (slots : List (Option Block)) (slot : ℕ) (content : Option Block) → slot < length slots → passing test (blocks_in (set slots slot content)) + one test (get_or slots slot None) ≡ passing test (blocks_in slots) + one test content
slots-set test [] slot content within = absurd (omega arith)
slots-set test (old ∷ slots) zero content within = omega (arith, slots-cons test old slots, slots-cons test content slots)
slots-set test (old ∷ slots) (suc slot) content within =
    let below : slot < length slots = omega arith in
    omega (arith, slots-set test slots slot content below, slots-cons test old slots, slots-cons test old (set slots slot content))

pub pages-set : (test : Block → Bool) (table : Table Block) (number : ℕ) (page : Option (Page Block)) → number < length table → in_table test (set table number page) + in_page test (page_at table number) ≡ in_table test table + in_page test page
pages-set test [] number page within = absurd (omega arith)
pages-set test (old ∷ table) zero page within = omega (arith, pages-cons test old table, pages-cons test page table)
pages-set test (old ∷ table) (suc number) page within =
    let below : number < length table = omega arith in
    omega (arith, pages-set test table number page below, pages-cons test old table, pages-cons test old (set table number page))

-- a slot of a page exchanged
in_page-with : (test : Block → Bool) (page : Page Block) (slot : ℕ) (content : Option Block) → slot < length page.slots → in_page test (Some (page_with slot content page)) + one test (block_in slot page) ≡ in_page test (Some page) + one test content
in_page-with test page slot content within = slots-set test page.slots slot content within

-- Where a block is ---------------------------------------------------------------------------------

-- the page of a block, and its slot there
record IsIn (table : Table Block) (place : ℕ) (block : Block) : Type 0 where
  pub page : Page Block
  pub page_is : page_at table (page_number place) ≡ Some page
  pub page_inside : page_number place < length table
  pub block_is : block_in (slot_number place) page ≡ Some block
  pub slot_inside : slot_number place < length page.slots

is_in : (table : Table Block) (place : ℕ) (block : Block) → block_at table place ≡ Some block → IsIn table place block
is_in table place block is = go (page_at table (page_number place)) refl is
  where
    go : (page : Option (Page Block)) → page_at table (page_number place) ≡ page → option_and_then (block_in (slot_number place)) page ≡ Some block → IsIn table place block
    go None at there = absurd (none-some block there)
    go (Some page) at there = record {
      page = page;
      page_is = at;
      page_inside = below_length table (page_number place) page at;
      block_is = there;
      slot_inside = below_length page.slots (slot_number place) block there;
    }

-- Changes ------------------------------------------------------------------------------------------

pub in_table-with_block : (test : Block → Bool) (table : Table Block) (place : ℕ) (old : Block) (content : Option Block) → block_at table place ≡ Some old → in_table test (with_block table place content) + one test (Some old) ≡ in_table test table + one test content
in_table-with_block test table place old content is =
    let at = is_in table place old is in
    let slot = slot_number place in
    let exchanged : in_table test (with_block table place content) ≡ in_table test (set table (page_number place) (Some (page_with slot content at.page)))
    = ap (λ page. in_table test (set table (page_number place) (option_map (page_with slot content) page))) at.page_is in
    grind (arith, pages-set, in_page-with)

none-passing : (test : Block → Bool) (count : ℕ) → passing test (blocks_in (replicate count None)) ≡ 0
none-passing test zero = refl
none-passing test (suc count) = none-passing test count

in_page-page_for : (test : Block → Bool) (size : ℕ) (page : Option (Page Block)) → in_page test (Some (page_for size page)) ≡ in_page test page
in_page-page_for test size None = none-passing test (slots_in size)
in_page-page_for test size (Some page) = refl

pub in_table-with_taken : (test : Block → Bool) (table : Table Block) (size place : ℕ) (block : Block) → IsFreeFor table size place → in_table test (with_taken table size place block) ≡ in_table test table + one test (Some block)
in_table-with_taken test table size place block free =
    let slot = slot_number place in
    let page = page_for size (page_at table (page_number place)) in
    grind (arith, page, block_in-page_for, pages-set, in_page-with, in_page-page_for)

pub in_table-with_flag : (test : Block → Bool) (table : Table Block) (number : ℕ) (is_flagged : Bool) → in_table test (with_flag table number is_flagged) ≡ in_table test table
in_table-with_flag test [] number is_flagged = refl
in_table-with_flag test (None ∷ table) zero is_flagged = refl
in_table-with_flag test (Some page ∷ table) zero is_flagged = refl
in_table-with_flag test (page ∷ table) (suc number) is_flagged = omega (arith, in_table-with_flag test table number is_flagged, pages-cons test page table, pages-cons test page (with_flag table number is_flagged))

-- Pages freed --------------------------------------------------------------------------------------

one-most : (test : Block → Bool) (block : Block) → one test (Some block) ≤ 1
one-most test block = go (test block)
  where
    go : (answer : Bool) → (if answer then 1 else 0) ≤ 1
    go true = omega arith
    go false = omega arith

-- no more pass than there are
few-passing : (test : Block → Bool) (slots : List (Option Block)) → passing test (blocks_in slots) ≤ block_count slots
few-passing test [] = omega arith
few-passing test (None ∷ slots) = few-passing test slots
few-passing test (Some block ∷ slots) = omega (arith, few-passing test slots, slots-cons test (Some block) slots, one-most test block)

-- the only block of a page passes or not
alone-passing : (test : Block → Bool) (slots : List (Option Block)) (slot : ℕ) (block : Block) → get_or slots slot None ≡ Some block → block_count slots ≡ 1 → passing test (blocks_in slots) ≡ one test (Some block)
alone-passing test [] slot block is alone = absurd (none-some block is)
alone-passing test (None ∷ slots) zero block is alone = absurd (none-some block is)
alone-passing test (None ∷ slots) (suc slot) block is alone = alone-passing test slots slot block is alone
alone-passing test (Some other ∷ slots) zero block is alone = omega (arith, slots-cons test (Some other) slots, few-passing test slots, ap (one test) is)
alone-passing test (Some other ∷ slots) (suc slot) block is alone = absurd (none-left slots slot block is (omega arith))
  where
    none-left : (slots : List (Option Block)) (slot : ℕ) (block : Block) → get_or slots slot None ≡ Some block → block_count slots ≡ 0 → ⊥
    none-left [] slot block is none = none-some block is
    none-left (None ∷ slots) zero block is none = none-some block is
    none-left (None ∷ slots) (suc slot) block is none = none-left slots slot block is none
    none-left (Some other ∷ slots) slot block is none = absurd (omega arith)

pub in_table-with_released : (test : Block → Bool) (table : Table Block) (place : ℕ) (frees_page : Bool) (block : Block) → block_at table place ≡ Some block → (frees_page ≡ true → count_at table (page_number place) ≡ 1) → in_table test (with_released table place frees_page) + one test (Some block) ≡ in_table test table
in_table-with_released test table place false block is alone = omega (arith, in_table-with_block test table place block None is)
in_table-with_released test table place true block is alone =
    let at = is_in table place block is in
    let count : block_count at.page.slots ≡ 1 = ap (λ page. unwrap_or (option_map live_in page) 0) (sym at.page_is) ∙ alone refl in
    omega (arith, pages-set test table (page_number place) None at.page_inside, ap (in_page test) at.page_is, alone-passing test at.page.slots (slot_number place) block at.block_is count)

pub in_table-freed : (test : Block → Bool) (table : Table Block) (number : ℕ) → count_at table number ≡ 0 → in_table test (set table number None) ≡ in_table test table
in_table-freed test [] number empty = refl
in_table-freed test (None ∷ table) zero empty = refl
in_table-freed test (Some page ∷ table) zero empty = omega (arith, pages-cons test (Some page) table, few-passing test page.slots, empty)
in_table-freed test (page ∷ table) (suc number) empty = omega (arith, in_table-freed test table number empty, pages-cons test page table, pages-cons test page (set table number None))

pub in_table-empty : (test : Block → Bool) (count : ℕ) → in_table test (replicate count None) ≡ 0
in_table-empty test zero = refl
in_table-empty test (suc count) = in_table-empty test count

-- How many there can be ----------------------------------------------------------------------------

few-blocks : (slots : List (Option Block)) → block_count slots ≤ length slots
few-blocks [] = omega arith
few-blocks (None ∷ slots) = omega (arith, few-blocks slots)
few-blocks (Some block ∷ slots) = omega (arith, few-blocks slots)

few-in_page : (test : Block → Bool) (page : Page Block) → HasItsSlots page → in_page test (Some page) ≤ 64
few-in_page test page its = omega (arith, few-passing test page.slots, few-blocks page.slots, its.slots, (class_is page.class_size its.class).few)

-- each page has 64 blocks at most
pub few-in_table : (test : Block → Bool) (table : Table Block) → HaveTheirSlots table → in_table test table ≤ 64 * length table
few-in_table test [] each = omega arith
few-in_table test (None ∷ table) each = omega (arith, few-in_table test table (λ number page is. each (suc number) page is))
few-in_table test (Some page ∷ table) each = omega (arith, few-in_table test table (λ number page is. each (suc number) page is), few-in_page test page (each 0 page refl), pages-cons test (Some page) table)
