-- A table seen through a function of its blocks: its pages, its places and what holds of them.
use Rattle.std.proofs.Common.{◌≡◌, ℕ, zero, suc, List, [], ◌∷◌, length, map, take, Option, Some, None, is_some, option_map, unwrap_or, IfSome, refl, ap, ◌∙◌, subst, arith}
use Rattle.std.proofs.{lemmas.List.length-map, lemmas.Option.{none-some, same_Some}}
use Rattle.std.specs.List.{list_any}
use Rattle.mh_model.specs.Pages.{Page, Table, page_at, block_at, class_at, flag_at, block_count, live_in, free_pages, count_at, is_dense, is_sparse, empty_slot, open_slot, fresh_slot, least, least_dense_place, least_place, is_dense_page, has_denser, page_for, HasItsSlots, HaveTheirSlots, IsFreeFor}
use Rattle.mh_table_laws.specs.TableMaps.{page_map, table_map}
use Rattle.mh_table_laws.proofs.TableMapLemmas.{length-table_map, page_at-table_map, block_at-table_map, page_for-table_map}

module _ {X Y : Type 0} (f : X → Y) where
  -- Pages ----------------------------------------------------------------------------------------

  is_some-map : {A B : Type 0} (g : A → B) (content : Option A) → is_some (option_map g content) ≡ is_some content
  is_some-map g content = grind arith

  pub is_taken-table_map : (table : Table X) (place : ℕ) → is_some (block_at (table_map f table) place) ≡ is_some (block_at table place)
  is_taken-table_map table place = grind (arith, block_at-table_map, is_some-map)

  pub is_used-table_map : (table : Table X) (number : ℕ) → is_some (page_at (table_map f table) number) ≡ is_some (page_at table number)
  is_used-table_map table number = grind (arith, page_at-table_map, is_some-map)

  class-map : (page : Option (Page X)) → option_map (λ used. used.class_size) (option_map (page_map f) page) ≡ option_map (λ used. used.class_size) page
  class-map page = grind arith

  pub class_at-table_map : (table : Table X) (number : ℕ) → class_at (table_map f table) number ≡ class_at table number
  class_at-table_map table number = grind (arith, page_at-table_map, class-map)

  flag-map : (page : Option (Page X)) → option_map (λ used. used.is_flagged) (option_map (page_map f) page) ≡ option_map (λ used. used.is_flagged) page
  flag-map page = grind arith

  pub flag_at-table_map : (table : Table X) (number : ℕ) → flag_at (table_map f table) number ≡ flag_at table number
  flag_at-table_map table number = grind (arith, page_at-table_map, flag-map)

  block_count-map : (slots : List (Option X)) → block_count (map (option_map f) slots) ≡ block_count slots
  block_count-map [] = refl
  block_count-map (None ∷ slots) = block_count-map slots
  block_count-map (Some block ∷ slots) = ap suc (block_count-map slots)

  count-map : (page : Option (Page X)) → unwrap_or (option_map live_in (option_map (page_map f) page)) 0 ≡ unwrap_or (option_map live_in page) 0
  count-map page = grind (arith, block_count-map)

  pub count_at-table_map : (table : Table X) (number : ℕ) → count_at (table_map f table) number ≡ count_at table number
  count_at-table_map table number = grind (arith, page_at-table_map, count-map)

  free_pages-map : (table : Table X) → free_pages (map (option_map (page_map f)) table) ≡ free_pages table
  free_pages-map [] = refl
  free_pages-map (None ∷ table) = ap suc (free_pages-map table)
  free_pages-map (Some page ∷ table) = free_pages-map table

  pub free_pages-table_map : (table : Table X) → free_pages (table_map f table) ≡ free_pages table
  unfolding table_map
  free_pages-table_map table = free_pages-map table

  -- Places ---------------------------------------------------------------------------------------

  denser-map : (table : Table X) (number size : ℕ) → list_any (is_dense_page size) (take number (map (option_map (page_map f)) table)) ≡ list_any (is_dense_page size) (take number table)
  denser-map table zero size = refl
  denser-map [] (suc number) size = refl
  denser-map (None ∷ table) (suc number) size = denser-map table number size
  denser-map (Some page ∷ table) (suc number) size = grind (arith, denser-map table number size)

  pub has_denser-table_map : (table : Table X) (number size : ℕ) → has_denser (table_map f table) number size ≡ has_denser table number size
  unfolding table_map
  has_denser-table_map table number size = denser-map table number size

  empty-map : (slots : List (Option X)) → empty_slot (map (option_map f) slots) ≡ empty_slot slots
  empty-map (Some block ∷ slots) = ap (option_map suc) (empty-map slots)
  empty-map slots = refl

  least-map : (see : Option (Page Y) → Option ℕ) (seen : Option (Page X) → Option ℕ) → ((page : Option (Page X)) → see (option_map (page_map f) page) ≡ seen page) → (table : Table X) → least see (map (option_map (page_map f)) table) ≡ least seen table
  least-map see seen same [] = refl
  least-map see seen same (page ∷ table) = grind (arith, least-map see seen same table)

  dense-map : (size : ℕ) (page : Option (Page X)) → open_slot (is_dense size) (option_map (page_map f) page) ≡ open_slot (is_dense size) page
  dense-map size page = grind (arith, empty-map)

  sparse-map : (size : ℕ) (page : Option (Page X)) → open_slot (is_sparse size) (option_map (page_map f) page) ≡ open_slot (is_sparse size) page
  sparse-map size page = grind (arith, empty-map)

  fresh-map : (page : Option (Page X)) → fresh_slot (option_map (page_map f) page) ≡ fresh_slot page
  fresh-map page = grind arith

  pub least_dense_place-table_map : (table : Table X) (size : ℕ) → least_dense_place (table_map f table) size ≡ least_dense_place table size
  unfolding table_map
  least_dense_place-table_map table size = search (arith, least-map, dense-map)

  pub least_place-table_map : (table : Table X) (size : ℕ) → least_place (table_map f table) size ≡ least_place table size
  unfolding table_map
  least_place-table_map table size =
      let dense = least-map (open_slot (is_dense size)) (open_slot (is_dense size)) (dense-map size) table in
      let fresh = least-map fresh_slot fresh_slot fresh-map table in
      rw (dense, fresh, least-map (open_slot (is_sparse size)) (open_slot (is_sparse size)) (sparse-map size) table) refl

  -- What holds of them ---------------------------------------------------------------------------

  length-slots : (table : Table X) (size number : ℕ) → length (page_for size (page_at (table_map f table) number)).slots ≡ length (page_for size (page_at table number)).slots
  length-slots table size number = grind (arith, page_for-table_map, length-map)

  class_for : (table : Table X) (size number : ℕ) → (page_for size (page_at (table_map f table) number)).class_size ≡ (page_for size (page_at table number)).class_size
  class_for table size number = ap (λ page. page.class_size) (page_for-table_map f table size number)

  nothing : (content : Option X) → option_map f content ≡ None → content ≡ None
  nothing content is = grind arith

  -- a place that is free above is free below
  pub free_below : (table : Table X) (size place : ℕ) → IsFreeFor (table_map f table) size place → IsFreeFor table size place
  free_below table size place free = grind (arith, length-table_map, nothing, block_at-table_map, length-slots, class_for)

  -- and the other way round
  pub free_above : (table : Table X) (size place : ℕ) → IsFreeFor table size place → IsFreeFor (table_map f table) size place
  free_above table size place free = grind (arith, length-table_map, block_at-table_map, length-slots, class_for)

  pub found_above : (table : Table X) (size : ℕ) (found : Option ℕ) → IfSome found (IsFreeFor table size) → IfSome found (IsFreeFor (table_map f table) size)
  found_above table size found free = grind (arith, free_above)

  -- a page that is seen so was there
  pub page_below : (table : Table X) (number : ℕ) (seen : Page Y) → page_at (table_map f table) number ≡ Some seen → (page : Page X) × (page_at table number ≡ Some page) × (page_map f page ≡ seen)
  page_below table number seen at = grind (arith, page_at-table_map, none-some, same_Some)

  pub have_their_slots : (table : Table X) → HaveTheirSlots table → HaveTheirSlots (table_map f table)
  have_their_slots table each number seen at =
      let (page, is, same) = page_below table number seen at in
      let its = each number page is in
      subst HasItsSlots same (record { class = its.class; slots = length-map page.slots (option_map f) ∙ its.slots })
