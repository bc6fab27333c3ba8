-- The deeds of a sweep step draw what it changes of a picture: a slot, and then its page.
use Rattle.std.proofs.Common.{◌≡◌, ℕ, ◌⊎◌, inr, nat_le, Bool, true, false, if◌then◌else◌, Option, Some, None, option_map, option_and_then, List, get_or, set, refl, sym, ap, ◌∙◌, arith}
use Rattle.std.proofs.lemmas.List.{set-get_or, set-set, get_or-set_same}
use Rattle.mh_model.specs.Pages.{Page, Table, page_number, slot_number, page_at, block_in, page_with, with_block, with_flag, flagged_as}
use Rattle.mh_model.specs.{Table.Block, Collector.{is_last_slot, survivor, judged_page, swept_page, swept_table}}
use Rattle.mh_model.specs.Deeds.{slot_fate, flag_deeds, page_deeds, sweep_deeds}
use Rattle.mh_table_laws.proofs.Lists.{below_length}
use Rattle.mh_table_laws.proofs.TableMapLemmas.{freed-table_map, with_block-table_map, with_flag-table_map}
use Rattle.mh_table_laws.specs.TableMaps.{table_map}
use Rattle.mh_tell_laws.specs.Picture.{Picture, drawn_of, with_table, swept_slot, drawn_all}

-- what is written where it was
set-same : {X : Type 0} (xs : List (Option X)) (i : ℕ) (x : Option X) → get_or xs i None ≡ x → set xs i x ≡ xs
set-same xs i x at = ap (set xs i) (sym at) ∙ set-get_or xs i None

-- Pages ------------------------------------------------------------------------------------------

-- a page with its flag, in a table
module _ (picture : Picture) (table : Table Block) (number : ℕ) (page : Page Block) (at : page_at table number ≡ Some page) where
  -- its flag set
  flag-written : (is_flagged : Bool) → with_table picture (with_flag (table_map drawn_of table) number is_flagged) ≡ with_table picture (table_map drawn_of (set table number (Some (flagged_as is_flagged page))))
  flag-written is_flagged = ap (with_table picture) (sym (with_flag-table_map drawn_of table number is_flagged) ∙ ap (λ content. table_map drawn_of (set table number (option_map (flagged_as is_flagged) content))) at)

  -- or as it was
  flag-same : (is_flagged : Bool) → page.is_flagged ≡ is_flagged → with_table picture (table_map drawn_of table) ≡ with_table picture (table_map drawn_of (set table number (Some (flagged_as is_flagged page))))
  flag-same is_flagged same = ap (λ t. with_table picture (table_map drawn_of t)) (sym (set-same table number (Some (flagged_as is_flagged page)) (at ∙ ap (λ b. Some (flagged_as b page)) same)))

  flags-drawn : (was is : Bool) → page.is_flagged ≡ was → drawn_all (with_table picture (table_map drawn_of table)) (flag_deeds number was is) ≡ with_table picture (table_map drawn_of (set table number (Some (flagged_as is page))))
  flags-drawn was is same = grind (arith, flag-same, flag-written)

  -- the page freed, or its flag set
  pages-drawn : (content : Option (Page Block)) → (content ≡ None) ⊎ ((is : Bool) × (content ≡ Some (flagged_as is page)))
      → drawn_all (with_table picture (table_map drawn_of table)) (page_deeds number page.is_flagged content) ≡ with_table picture (table_map drawn_of (set table number content))
  pages-drawn content is = grind (arith, freed-table_map, flags-drawn)

-- Slots ------------------------------------------------------------------------------------------

module _ (cycle : ℕ) (picture : Picture) (table : Table Block) (place : ℕ) (page : Page Block) (at : page_at table (page_number place) ≡ Some page) where
  -- a slot that is emptied
  freed-drawn : with_table picture (with_block (table_map drawn_of table) place None) ≡ with_table picture (table_map drawn_of (set table (page_number place) (Some (page_with (slot_number place) None page))))
  freed-drawn = ap (with_table picture) (sym (with_block-table_map drawn_of table place None) ∙ ap (λ content. table_map drawn_of (set table (page_number place) (option_map (page_with (slot_number place) None) content))) at)

  -- or stays
  kept-drawn : (content : Option Block) → block_in (slot_number place) page ≡ content → with_table picture (table_map drawn_of table) ≡ with_table picture (table_map drawn_of (set table (page_number place) (Some (page_with (slot_number place) content page))))
  kept-drawn content is = grind (arith, set-same)

  slot-drawn : (content : Option Block) → block_in (slot_number place) page ≡ content
      → with_table picture (swept_slot (table_map drawn_of table) place (slot_fate cycle content)) ≡ with_table picture (table_map drawn_of (set table (page_number place) (Some (page_with (slot_number place) (option_and_then (survivor cycle) content) page))))
  slot-drawn content is = grind (arith, kept-drawn, freed-drawn)

-- Steps ------------------------------------------------------------------------------------------

-- a page after its slot was swept is freed, or is that with another flag
judged-case : (cycle : ℕ) (table : Table Block) (place : ℕ) (page : Page Block) (swept : Page Block) (last : Bool)
    → let content = if last then judged_page table (page_number place) swept else Some swept in
    (content ≡ None) ⊎ ((is : Bool) × (content ≡ Some (flagged_as is swept)))
judged-case cycle table place page swept false = inr (swept.is_flagged, refl)
judged-case cycle table place page swept true = grind (arith, nat_le)

-- The deeds of a sweep step
pub sweep-drawn : (cycle : ℕ) (picture : Picture) (table : Table Block) (place : ℕ)
    → with_table picture (table_map drawn_of (swept_table cycle table place)) ≡ drawn_all (with_table picture (table_map drawn_of table)) (sweep_deeds cycle table place (page_at table (page_number place)))
sweep-drawn cycle picture table place = go (page_at table (page_number place)) refl
  where
    go : (content : Option (Page Block)) → page_at table (page_number place) ≡ content
        → with_table picture (table_map drawn_of (set table (page_number place) (option_and_then (swept_page cycle table place) content))) ≡ drawn_all (with_table picture (table_map drawn_of table)) (sweep_deeds cycle table place content)
    go None at = ap (λ t. with_table picture (table_map drawn_of t)) (set-same table (page_number place) None at)
    go (Some page) at =
        let swept : Page Block = page_with (slot_number place) (option_and_then (survivor cycle) (block_in (slot_number place) page)) page in
        let between : Table Block = set table (page_number place) (Some swept) in
        let after : Option (Page Block) = swept_page cycle table place page in
        let there : page_at between (page_number place) ≡ Some swept = get_or-set_same table (page_number place) (Some swept) None (below_length table (page_number place) page at) in
        ap (λ t. with_table picture (table_map drawn_of t)) (sym (set-set table (page_number place) (Some swept) after))
        ∙ sym (pages-drawn picture between (page_number place) swept there after (judged-case cycle table place page swept (is_last_slot place page)))
        ∙ ap (λ (p : Picture). drawn_all p (page_deeds (page_number place) page.is_flagged after)) (sym (slot-drawn cycle picture table place page at (block_in (slot_number place) page) refl))
