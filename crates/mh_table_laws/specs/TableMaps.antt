-- A table seen through a function of its blocks.
use Rattle.std.specs.Prelude.{option_map, map}
use Rattle.mh_model.specs.Pages.{Page, Table}

module _ {X Y : Type 0} (f : X → Y) where
  -- the page with each block replaced by what the function makes of it
  abbrev pub page_map : Page X → Page Y
  page_map page = record { class_size = page.class_size; is_flagged = page.is_flagged; slots = map (option_map f) page.slots }

  -- the table with each block replaced so
  unfoldable pub table_map : Table X → Table Y
  table_map table = map (option_map page_map) table
