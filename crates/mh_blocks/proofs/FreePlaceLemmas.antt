-- How many places are free for a class, in a table seen through a function of its blocks.
use Rattle.std.proofs.Common.{◌≡◌, ℕ, suc, ◌+◌, ◌==◌, if◌then◌else◌, List, [], ◌∷◌, map, Option, Some, None, option_map, refl, ap, ◌∙◌}
use Rattle.mh_model.specs.Pages.{Page, Table}
use Rattle.mh_pages.specs.FreePlaces.{empty_count, free_in, free_places}
use Rattle.mh_table_laws.specs.TableMaps.{page_map, table_map}

module _ {X Y : Type 0} (f : X → Y) where
  empty_count-map : (slots : List (Option X)) → empty_count (map (option_map f) slots) ≡ empty_count slots
  empty_count-map [] = refl
  empty_count-map (None ∷ slots) = ap suc (empty_count-map slots)
  empty_count-map (Some block ∷ slots) = empty_count-map slots

  free_in-map : (size : ℕ) (page : Option (Page X)) → free_in size (option_map (page_map f) page) ≡ free_in size page
  free_in-map size None = refl
  free_in-map size (Some page) = ap (λ n. if page.class_size == size then n else 0) (empty_count-map page.slots)

  pub free_places-table_map : (table : Table X) (size : ℕ) → free_places (table_map f table) size ≡ free_places table size
  unfolding table_map
  free_places-table_map [] size = refl
  free_places-table_map (page ∷ pages) size =
      ap (λ n. n + free_places (table_map f pages) size) (free_in-map size page) ∙ ap (λ n. free_in size page + n) (free_places-table_map pages size)
