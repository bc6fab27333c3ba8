-- A table seen through a function of its blocks: what is there, and what is changed.
use Rattle.std.proofs.Common.{◌≡◌, ℕ, zero, suc, Bool, List, ◌∷◌, length, map, get_or, set, replicate, Option, Some, None, option_map, option_and_then, refl, sym, ap, ◌∙◌, arith}
use Rattle.std.proofs.lemmas.List.{map-set, length-map}
use Rattle.mh_model.specs.Pages.{Page, Table, page_at, block_in, block_at, page_with, with_block, page_for, with_taken, with_released, flagged_as, with_flag}
use Rattle.mh_table_laws.proofs.placing.Places.{with_block-self}
use Rattle.mh_table_laws.specs.TableMaps.{page_map, table_map}

at_map : {A B : Type 0} (g : A → B) (xs : List (Option A)) (i : ℕ) → get_or (map (option_map g) xs) i None ≡ option_map g (get_or xs i None)
at_map g (x ∷ xs) (suc i) = at_map g xs i
at_map g xs i = refl

none_map : {A B : Type 0} (g : A → B) (n : ℕ) → map (option_map g) (replicate n None) ≡ replicate n None
none_map g zero = refl
none_map g (suc n) = ap (λ xs. None ∷ xs) (none_map g n)

module _ {X Y : Type 0} (f : X → Y) where
  in_page : (slot : ℕ) (page : Option (Page X)) → option_and_then (block_in slot) (option_map (page_map f) page) ≡ option_map f (option_and_then (block_in slot) page)
  in_page slot page = grind (arith, at_map)

  -- a table of free pages
  pub free-table_map : (pages : ℕ) → table_map f (replicate pages None) ≡ replicate pages None
  unfolding table_map
  free-table_map pages = none_map (page_map f) pages

  pub length-table_map : (table : Table X) → length (table_map f table) ≡ length table
  unfolding table_map
  length-table_map table = length-map table (option_map (page_map f))

  pub page_at-table_map : (table : Table X) (number : ℕ) → page_at (table_map f table) number ≡ option_map (page_map f) (page_at table number)
  unfolding table_map
  page_at-table_map table number = at_map (page_map f) table number

  pub block_at-table_map : (table : Table X) (place : ℕ) → block_at (table_map f table) place ≡ option_map f (block_at table place)
  block_at-table_map table place = grind (arith, page_at-table_map, in_page)

  -- Changes --------------------------------------------------------------------------------------

  set-table_map : (table : Table X) (number : ℕ) (page : Option (Page X)) → table_map f (set table number page) ≡ set (table_map f table) number (option_map (page_map f) page)
  unfolding table_map
  set-table_map table number page = map-set (option_map (page_map f)) table number page

  pub freed-table_map : (table : Table X) (number : ℕ) → table_map f (set table number None) ≡ set (table_map f table) number None
  freed-table_map table number = set-table_map table number None

  page_with-map : (slot : ℕ) (content : Option X) (page : Option (Page X)) → option_map (page_map f) (option_map (page_with slot content) page) ≡ option_map (page_with slot (option_map f content)) (option_map (page_map f) page)
  page_with-map slot content page = grind (arith, map-set)

  pub with_block-table_map : (table : Table X) (place : ℕ) (content : Option X) → table_map f (with_block table place content) ≡ with_block (table_map f table) place (option_map f content)
  with_block-table_map table place content = grind (arith, set-table_map, page_with-map, page_at-table_map)

  pub with_released-table_map : (table : Table X) (place : ℕ) (frees_page : Bool) → table_map f (with_released table place frees_page) ≡ with_released (table_map f table) place frees_page
  with_released-table_map table place frees_page = grind (arith, freed-table_map, with_block-table_map)

  flagged-map : (is_flagged : Bool) (page : Option (Page X)) → option_map (page_map f) (option_map (flagged_as is_flagged) page) ≡ option_map (flagged_as is_flagged) (option_map (page_map f) page)
  flagged-map is_flagged page = grind arith

  pub with_flag-table_map : (table : Table X) (number : ℕ) (is_flagged : Bool) → table_map f (with_flag table number is_flagged) ≡ with_flag (table_map f table) number is_flagged
  with_flag-table_map table number is_flagged = grind (arith, set-table_map, flagged-map, page_at-table_map)

  pub page_for-map : (size : ℕ) (page : Option (Page X)) → page_map f (page_for size page) ≡ page_for size (option_map (page_map f) page)
  page_for-map size None = search (arith, none_map)
  page_for-map size (Some page) = refl

  pub page_for-table_map : (table : Table X) (size number : ℕ) → page_for size (page_at (table_map f table) number) ≡ page_map f (page_for size (page_at table number))
  page_for-table_map table size number = grind (arith, page_at-table_map, page_for-map)

  written-map : (slot : ℕ) (block : X) (page : Page X) → page_map f (page_with slot (Some block) page) ≡ page_with slot (Some (f block)) (page_map f page)
  written-map slot block page = grind (arith, map-set)

  pub with_taken-table_map : (table : Table X) (size place : ℕ) (block : X) → table_map f (with_taken table size place block) ≡ with_taken (table_map f table) size place (f block)
  with_taken-table_map table size place block = grind (arith, set-table_map, written-map, page_for-table_map)

  -- One block changed ----------------------------------------------------------------------------

  changed_content : (g : X → X) (h : Y → Y) (content : Option X) → ((x : X) → content ≡ Some x → f (g x) ≡ h (f x)) → option_map f (option_map g content) ≡ option_map h (option_map f content)
  changed_content g h content same = grind arith

  -- a block changed below is a block changed above
  pub changed : (table : Table X) (place : ℕ) (g : X → X) (h : Y → Y) → ((x : X) → block_at table place ≡ Some x → f (g x) ≡ h (f x))
      → table_map f (with_block table place (option_map g (block_at table place))) ≡ with_block (table_map f table) place (option_map h (block_at (table_map f table) place))
  changed table place g h same =
      with_block-table_map table place (option_map g (block_at table place))
      ∙ ap (with_block (table_map f table) place) (changed_content g h (block_at table place) same ∙ ap (option_map h) (sym (block_at-table_map table place)))

  unseen_content : (g : X → X) (content : Option X) → ((x : X) → content ≡ Some x → f (g x) ≡ f x) → option_map f (option_map g content) ≡ option_map f content
  unseen_content g content same = grind arith

  -- a change of a block that isn't seen leaves the table as it is seen
  pub unseen : (table : Table X) (place : ℕ) (g : X → X) → ((x : X) → block_at table place ≡ Some x → f (g x) ≡ f x) → table_map f (with_block table place (option_map g (block_at table place))) ≡ table_map f table
  unseen table place g same = grind (arith, with_block-table_map, unseen_content, block_at-table_map, with_block-self)

  -- in tables that are seen alike blocks are seen alike
  pub seen_alike : (old new : Table X) (place : ℕ) (x : X) → table_map f new ≡ table_map f old → block_at new place ≡ Some x → (y : X) × (block_at old place ≡ Some y) × (f y ≡ f x)
  seen_alike old new place x same at = grind (arith, block_at-table_map old place, block_at-table_map new place)
