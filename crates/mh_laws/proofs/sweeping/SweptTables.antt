-- The table after a sweep step: what is left in the slot that was swept, and every other block.
use Rattle.std.proofs.Common.{◌≡◌, ◌≢◌, ℕ, suc, ◌+◌, ◌<◌, if◌then◌else◌, Bool, true, false, ◌⊎◌, inl, inr, ◌∷◌, length, get_or, set, Option, Some, None, option_and_then, refl, sym, ap, ◌∙◌, arith, eq-eqb, eqb-true}
use Rattle.std.proofs.{lemmas.Bool.{cases_eq, cases_lt, cases_order}, lemmas.Option.{none-some, same_Some}}
use Rattle.std.proofs.lemmas.List.{get_or-set_same, get_or-set_other, length-set}
use Rattle.mh_table_laws.proofs.{placing.Places.block_count-none, tables.PageSlots.judged_page-is, Lists.below_length}
use Rattle.mh_model.specs.Pages.{Page, Table, page_number, slot_number, page_at, block_in, block_at, page_with}
use Rattle.mh_model.specs.Table.{Block}
use Rattle.mh_model.specs.Collector.{next_page, is_last_slot, next_place, survivor, judged_page, swept_page, swept_table}

-- What a sweep step leaves: nothing but blocks that were there, at its place only a marked one that is no forwarder, and each such block
pub record IsSwept (cycle : ℕ) (table : Table Block) (place : ℕ) (table' : Table Block) (place' : ℕ) : Type 0 where
  pub only : (q : ℕ) (x : Block) → block_at table' q ≡ Some x → block_at table q ≡ Some x
  pub here : (q : ℕ) (x : Block) → block_at table' q ≡ Some x → q ≡ place → x.stamp ≡ cycle
  pub kept : (q : ℕ) (x : Block) → block_at table q ≡ Some x → x.stamp ≡ cycle → x.forward ≡ None → block_at table' q ≡ Some x
  pub passed : (q : ℕ) (x : Block) → block_at table' q ≡ Some x → q < place' → (q < place) ⊎ (q ≡ place)
  pub narrow : (number : ℕ) (page : Page Block) → page_at table' number ≡ Some page → (old : Page Block) × (page_at table number ≡ Some old) × (length page.slots ≡ length old.slots)

-- a page that is judged keeps its blocks
judged-reads : (table : Table Block) (number : ℕ) (page : Page Block) (slot : ℕ) → option_and_then (block_in slot) (judged_page table number page) ≡ get_or page.slots slot None
judged-reads table number page slot = grind (arith, block_count-none, eqb-true)

survivor-is : (cycle : ℕ) (o : Option Block) (x : Block) → option_and_then (survivor cycle) o ≡ Some x → (o ≡ Some x) × (x.stamp ≡ cycle)
survivor-is cycle o x e = grind (arith, none-some, same_Some, eqb-true)

survivor-kept : (cycle : ℕ) (x : Block) → x.stamp ≡ cycle → x.forward ≡ None → survivor cycle x ≡ Some x
survivor-kept cycle x s live = rw (live, eq-eqb x.stamp cycle s) refl

read_none : (table : Table Block) (n m : ℕ) → page_at table n ≡ None → page_at (set table n None) m ≡ page_at table m
read_none (p ∷ table) (suc n) (suc m) e = read_none table n m e
read_none table n m e = grind arith

-- a free page is passed
swept-free : (cycle : ℕ) (table : Table Block) (place : ℕ) → page_at table (page_number place) ≡ None → IsSwept cycle table place (set table (page_number place) None) (next_page place)
swept-free cycle table place free = grind (arith, none-some, cases_lt, read_none)

-- A page in use of which one slot is swept, with what is in it then
module _ (cycle : ℕ) (table : Table Block) (place : ℕ) (page : Page Block) (is : page_at table (page_number place) ≡ Some page) where
  abbrev left : Option Block
  left = option_and_then (survivor cycle) (block_in (slot_number place) page)

  inside : page_number place < length table
  inside = below_length table (page_number place) page is

  module _ (new : Option (Page Block)) (reads : (slot : ℕ) → option_and_then (block_in slot) new ≡ get_or (set page.slots (slot_number place) left) slot None)
      (size : (p : Page Block) → new ≡ Some p → length p.slots ≡ length page.slots) (place' : ℕ) (passes : (q : ℕ) (x : Block) → block_at (set table (page_number place) new) q ≡ Some x → q < place' → (q < place) ⊎ (q ≡ place)) where
    other : (q : ℕ) → q ≢ place → block_at (set table (page_number place) new) q ≡ block_at table q
    other q apart = grind (arith, cases_eq, get_or-set_other, get_or-set_same, inside)

    now : block_at (set table (page_number place) new) place ≡ get_or (set page.slots (slot_number place) left) (slot_number place) None
    now = ap (option_and_then (block_in (slot_number place))) (get_or-set_same table (page_number place) new None inside) ∙ reads (slot_number place)

    before : block_at table place ≡ block_in (slot_number place) page
    before = ap (option_and_then (block_in (slot_number place))) is

    survived : (x : Block) → block_at (set table (page_number place) new) place ≡ Some x → (block_at table place ≡ Some x) × (x.stamp ≡ cycle)
    survived x e = grind (arith, now, length-set, below_length, survivor-is, get_or-set_same, before)

    swept-page : IsSwept cycle table place (set table (page_number place) new) place'
    swept-page = record {
      only = λ q x e. grind (arith, cases_eq, survived, other);
      here = λ q x e same. (survived x (ap (block_at (set table (page_number place) new)) (sym same) ∙ e)).1;
      kept = λ q x e s live. elim (cases_eq q place) [
        | inl same ↦ grind (arith, before, same, now, get_or-set_same, below_length, survivor-kept)
        | inr apart ↦ other q apart ∙ e
      ];
      passed = passes;
      narrow = λ number p e. grind (arith, cases_eq, get_or-set_other, get_or-set_same, inside);
    }

-- A sweep step
pub swept-is : (cycle : ℕ) (table : Table Block) (place : ℕ) → IsSwept cycle table place (swept_table cycle table place) (next_place place (page_at table (page_number place)))
swept-is cycle table place = go (page_at table (page_number place)) refl
  where
    go : (content : Option (Page Block)) → page_at table (page_number place) ≡ content → IsSwept cycle table place (set table (page_number place) (option_and_then (swept_page cycle table place) content)) (next_place place content)
    go None is = swept-free cycle table place is
    go (Some page) is = by_last (is_last_slot place page) refl
      where
        o : Option Block
        o = option_and_then (survivor cycle) (block_in (slot_number place) page)

        same_length : length (set page.slots (slot_number place) o) ≡ length page.slots
        same_length = length-set _ _ _

        by_last : (last : Bool) → is_last_slot place page ≡ last
            → IsSwept cycle table place (set table (page_number place) (if last then judged_page table (page_number place) (page_with (slot_number place) o page) else Some (page_with (slot_number place) o page))) (if last then next_page place else place + 1)
        by_last false e = swept-page cycle table place page is (Some (page_with (slot_number place) o page)) (λ slot. refl) (λ p f. ap (λ z. length z.slots) (sym (same_Some (page_with (slot_number place) o page) p f)) ∙ same_length) (place + 1) (λ q x f below. at_once q below)
          where
            at_once : (q : ℕ) → q < place + 1 → (q < place) ⊎ (q ≡ place)
            at_once q below = elim (cases_lt q place) [ inl l ↦ inl l | inr g ↦ inr (omega arith) ]
        by_last true e = swept-page cycle table place page is (judged_page table (page_number place) (page_with (slot_number place) o page)) (judged-reads table (page_number place) (page_with (slot_number place) o page))
            (λ p f. ap length (judged_page-is table (page_number place) (page_with (slot_number place) o page) p f).slots ∙ same_length) (next_page place) passes
          where
            last_slot : suc (slot_number place) ≡ length page.slots
            last_slot = eqb-true (suc (slot_number place)) (length page.slots) e

            inside_table : page_number place < length table
            inside_table = below_length table (page_number place) page is

            passes : (q : ℕ) (x : Block) → block_at (set table (page_number place) (judged_page table (page_number place) (page_with (slot_number place) o page))) q ≡ Some x → q < next_page place → (q < place) ⊎ (q ≡ place)
            passes q x f below = grind (arith, cases_order, o, judged-reads, get_or-set_same, inside_table, last_slot, same_length, below_length)
