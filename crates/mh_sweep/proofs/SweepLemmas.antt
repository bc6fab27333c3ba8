-- A sweep step by its halves.
use Rattle.std.proofs.Common.{◌≡◌, ◌≢◌, ℕ, zero, suc, ◌+◌, ◌*◌, ◌<◌, ◌≤◌, ◌==◌, ◌&&◌, nat_le, Bool, true, false, if◌then◌else◌, [], ◌∷◌, length, set, take, Option, Some, None, option_map, option_and_then, unwrap_or, is_some, refl, sym, ap, ◌∙◌, arith, eq-eqb}
use Rattle.std.proofs.lemmas.Bool.{false≢true, true≢false, le-leb, lt-leb, ne_eqb}
use Rattle.std.proofs.lemmas.Option.{none-some, same_Some}
use Rattle.std.proofs.lemmas.List.{set-get_or, set-set, get_or-set_same, take-set, length-set}
use Rattle.std.specs.List.{list_any}
use Rattle.mh_model.specs.Classes.{slots_in}
use Rattle.mh_model.specs.Pages.{Page, Table, page_number, slot_number, page_at, block_in, block_at, class_at, count_at, live_in, is_dense_page, has_denser, page_with, with_block, flagged_as, with_flag, HaveTheirSlots}
use Rattle.mh_model.specs.Table.{Block, stamp_at, forward_at}
use Rattle.mh_model.specs.Collector.{survivor, judged_page, swept_page, swept_table, is_last_slot, next_page, next_place}
use Rattle.mh_table_laws.proofs.placing.Places.{with_block-self}
use Rattle.mh_sweep.specs.Auxiliary.{slot_swept, judged}

-- how many slots the page of this number has: none if it is free
abbrev pub slot_count_in : Table Block → ℕ → ℕ
slot_count_in table number = unwrap_or (option_map (λ page. length page.slots) (page_at table number)) 0

-- What the class of a page says ----------------------------------------------------------------------

pub used-classed : (table : Table Block) (number size : ℕ) → class_at table number ≡ Some size → is_some (page_at table number) ≡ true
used-classed table number size is = go (page_at table number) is
  where
    go : (page : Option (Page Block)) → option_map (λ used. used.class_size) page ≡ Some size → is_some page ≡ true
    go None is = absurd (none-some size is)
    go (Some page) is = refl

pub slots-classed : (table : Table Block) (number size : ℕ) → HaveTheirSlots table → class_at table number ≡ Some size → slot_count_in table number ≡ slots_in size
slots-classed table number size all is = go (page_at table number) refl is
  where
    go : (page : Option (Page Block)) → page_at table number ≡ page → option_map (λ used. used.class_size) page ≡ Some size → unwrap_or (option_map (λ used. length used.slots) page) 0 ≡ slots_in size
    go None at is = absurd (none-some size is)
    go (Some page) at is = (all number page at).slots ∙ ap slots_in (same_Some page.class_size size is)

-- What stands is written ---------------------------------------------------------------------------

swept-as : (cycle : ℕ) (table : Table Block) (place : ℕ) → option_and_then (survivor cycle) (block_at table place) ≡ block_at table place → table ≡ slot_swept cycle table place
swept-as cycle table place same = sym (ap (with_block table place) same ∙ with_block-self table place)

no-block : (cycle : ℕ) (content : Option Block) → is_some content ≡ false → option_and_then (survivor cycle) content ≡ content
no-block cycle None is = refl
no-block cycle (Some block) is = absurd (true≢false is)

pub swept-free : (cycle : ℕ) (table : Table Block) (place : ℕ) → is_some (block_at table place) ≡ false → table ≡ slot_swept cycle table place
swept-free cycle table place is = swept-as cycle table place (no-block cycle (block_at table place) is)

survives : (cycle : ℕ) (content : Option Block) → option_and_then (λ b. b.forward) content ≡ None → unwrap_or (option_map (λ b. b.stamp) content) 0 ≡ cycle → option_and_then (survivor cycle) content ≡ content
survives cycle None original marked = refl
survives cycle (Some block) original marked = rw (original, eq-eqb block.stamp cycle marked) refl

pub swept-kept : (cycle : ℕ) (table : Table Block) (place : ℕ) → forward_at table place ≡ None → stamp_at table place ≡ cycle → table ≡ slot_swept cycle table place
swept-kept cycle table place original marked = swept-as cycle table place (survives cycle (block_at table place) original marked)

-- The page judged ----------------------------------------------------------------------------------

judged-some : (table : Table Block) (number size slots : ℕ) (page : Option (Page Block)) → option_map (λ used. used.class_size) page ≡ Some size → unwrap_or (option_map (λ used. length used.slots) page) 0 ≡ slots → unwrap_or (option_map live_in page) 0 ≢ 0
    → option_map (flagged_as (nat_le (4 * unwrap_or (option_map live_in page) 0) slots && has_denser table number size)) page ≡ option_and_then (judged_page table number) page
judged-some table number size slots None class long some = refl
judged-some table number size slots (Some page) class long some = rw (ne_eqb (live_in page) 0 some, ← long, ← same_Some page.class_size size class) refl

pub judged-flagged : (table : Table Block) (number size live : ℕ) (flag : Bool) → HaveTheirSlots table → class_at table number ≡ Some size → live ≡ count_at table number → live ≢ 0 → flag ≡ (nat_le (4 * live) (slots_in size) && has_denser table number size)
    → with_flag table number flag ≡ judged table number
judged-flagged table number size live flag all class count some is = grind (arith, judged-some, slots-classed)

-- The step ------------------------------------------------------------------------------------------

-- the page of a place, with the slot swept
record IsSweptPage (cycle : ℕ) (table : Table Block) (place : ℕ) (page : Page Block) : Type 0 where
  pub at : page_at table (page_number place) ≡ Some page
  pub swept : slot_swept cycle table place ≡ set table (page_number place) (Some (page_with (slot_number place) (option_and_then (survivor cycle) (block_in (slot_number place) page)) page))

swept_page-is : (cycle : ℕ) (table : Table Block) (place : ℕ) (page : Page Block) → page_at table (page_number place) ≡ Some page → IsSweptPage cycle table place page
swept_page-is cycle table place page at = record {
  at = at;
  swept = ap (λ p. set table (page_number place) (option_map (page_with (slot_number place) (option_and_then (survivor cycle) (option_and_then (block_in (slot_number place)) p))) p)) at;
}

in_use : (page : Option (Page Block)) → is_some page ≡ true → (p : Page Block) × (page ≡ Some p)
in_use None is = absurd (false≢true is)
in_use (Some p) is = (p, refl)

-- a free page
pub step-free : (cycle : ℕ) (table : Table Block) (place : ℕ) → class_at table (page_number place) ≡ None
    → (swept_table cycle table place ≡ table) × (next_place place (page_at table (page_number place)) ≡ next_page place)
step-free cycle table place is =
    let free = none-classed (page_at table (page_number place)) is in (
      ap (λ p. set table (page_number place) (option_and_then (swept_page cycle table place) p)) free ∙ ap (set table (page_number place)) (sym free) ∙ set-get_or table (page_number place) None,
      ap (next_place place) free,
    )
  where
    none-classed : (page : Option (Page Block)) → option_map (λ used. used.class_size) page ≡ None → page ≡ None
    none-classed None is = refl
    none-classed (Some page) is = absurd (none-some page.class_size (sym is))

-- a slot that isn't the last
pub step-slot : (cycle : ℕ) (table : Table Block) (place : ℕ) → is_some (page_at table (page_number place)) ≡ true → slot_number place + 1 ≢ slot_count_in table (page_number place)
    → (slot_swept cycle table place ≡ swept_table cycle table place) × (place + 1 ≡ next_place place (page_at table (page_number place)))
step-slot cycle table place used more =
    let (page, at) = in_use (page_at table (page_number place)) used in
    let is = swept_page-is cycle table place page at in
    let last : is_last_slot place page ≡ false = ne_eqb (suc (slot_number place)) (length page.slots) (λ e. more (omega (arith, e, ap (λ p. unwrap_or (option_map (λ q. length q.slots) p) 0) at))) in
    let swept = page_with (slot_number place) (option_and_then (survivor cycle) (block_in (slot_number place) page)) page in (
      is.swept ∙ sym (ap (λ p. set table (page_number place) (option_and_then (swept_page cycle table place) p)) at ∙ ap (λ b. set table (page_number place) (if b then judged_page table (page_number place) swept else Some swept)) last),
      sym (ap (next_place place) at ∙ ap (λ b. if b then next_page place else place + 1) last),
    )

-- the last one
pub step-last : (cycle : ℕ) (table : Table Block) (place : ℕ) → page_number place < length table → is_some (page_at table (page_number place)) ≡ true → slot_number place + 1 ≡ slot_count_in table (page_number place)
    → (judged (slot_swept cycle table place) (page_number place) ≡ swept_table cycle table place) × (next_page place ≡ next_place place (page_at table (page_number place)))
step-last cycle table place inside used all =
    let number = page_number place in
    let (page, at) = in_use (page_at table number) used in
    let is = swept_page-is cycle table place page at in
    let last : is_last_slot place page ≡ true = eq-eqb (suc (slot_number place)) (length page.slots) (omega (arith, all, ap (λ p. unwrap_or (option_map (λ q. length q.slots) p) 0) at)) in
    let swept = page_with (slot_number place) (option_and_then (survivor cycle) (block_in (slot_number place) page)) page in
    let there : page_at (set table number (Some swept)) number ≡ Some swept = get_or-set_same table number (Some swept) None inside in
    let denser : take number (set table number (Some swept)) ≡ take number table = take-set table number (Some swept) in (
      ap (λ t. judged t number) is.swept
          ∙ ap (λ p. set (set table number (Some swept)) number (option_and_then (judged_page (set table number (Some swept)) number) p)) there
          ∙ set-set table number (Some swept) (judged_page (set table number (Some swept)) number swept)
          ∙ judged-like table number (set table number (Some swept)) swept denser
          ∙ sym (ap (λ p. set table number (option_and_then (swept_page cycle table place) p)) at ∙ ap (λ b. set table number (if b then judged_page table number swept else Some swept)) last),
      sym (ap (next_place place) at ∙ ap (λ b. if b then next_page place else place + 1) last),
    )
  where
    judged-like : (t : Table Block) (number : ℕ) (other : Table Block) (page : Page Block) → take number other ≡ take number t → set t number (judged_page other number page) ≡ set t number (judged_page t number page)
    judged-like t number other page same = ap (λ pages. set t number (if live_in page == 0 then None else Some (record page { is_flagged = nat_le (4 * live_in page) (length page.slots) && list_any (is_dense_page page.class_size) pages }))) same

-- the page stays as long, and of its class
pub swept-slots : (cycle : ℕ) (table : Table Block) (place : ℕ) → slot_count_in (slot_swept cycle table place) (page_number place) ≡ slot_count_in table (page_number place)
swept-slots cycle table place = go table (page_number place)
  where
    go : (t : Table Block) (number : ℕ) → slot_count_in (set t number (option_map (page_with (slot_number place) (option_and_then (survivor cycle) (block_at table place))) (page_at t number))) number ≡ slot_count_in t number
    go [] number = refl
    go (None ∷ t) zero = refl
    go (Some page ∷ t) zero = length-set page.slots (slot_number place) (option_and_then (survivor cycle) (block_at table place))
    go (page ∷ t) (suc number) = go t number

pub swept-class : (cycle : ℕ) (table : Table Block) (place : ℕ) → class_at (slot_swept cycle table place) (page_number place) ≡ class_at table (page_number place)
swept-class cycle table place = go table (page_number place)
  where
    go : (t : Table Block) (number : ℕ) → class_at (set t number (option_map (page_with (slot_number place) (option_and_then (survivor cycle) (block_at table place))) (page_at t number))) number ≡ class_at t number
    go [] number = refl
    go (None ∷ t) zero = refl
    go (Some page ∷ t) zero = refl
    go (page ∷ t) (suc number) = go t number

pub swept-long : (cycle : ℕ) (table : Table Block) (place : ℕ) → length (slot_swept cycle table place) ≡ length table
swept-long cycle table place = length-set table (page_number place) _

pub none_of : (o : Option ℕ) → is_some o ≡ false → o ≡ None
none_of None is = refl
none_of (Some x) is = absurd (true≢false is)

pub sparse-yes : (live slots : ℕ) (denser : Bool) → 4 * live ≤ slots → denser ≡ true → true ≡ (nat_le (4 * live) slots && denser)
sparse-yes live slots denser few is = rw (le-leb (4 * live) slots few, is) refl

pub sparse-no : (live slots : ℕ) (denser : Bool) → slots < 4 * live → false ≡ (nat_le (4 * live) slots && denser)
sparse-no live slots denser many = rw (lt-leb (4 * live) slots many) refl

pub dense-no : (live slots : ℕ) (denser : Bool) → denser ≡ false → false ≡ (nat_le (4 * live) slots && denser)
dense-no live slots denser is = rw is (go (nat_le (4 * live) slots))
  where
    go : (few : Bool) → false ≡ (few && false)
    go true = refl
    go false = refl
