-- A table seen through a function of its blocks has its blocks at the same addresses.
use Rattle.std.proofs.Common.{◌≡◌, ℕ, refl}
use Rattle.mh_model.specs.Pages.{Table, page_number}
use Rattle.mh_pages.specs.Addresses.{address_in}
use Rattle.mh_table_laws.specs.TableMaps.{table_map}
use Rattle.mh_table_laws.proofs.PageMapLemmas.{class_at-table_map}

pub address_in-table_map : {X Y : Type 0} (f : X → Y) (table : Table X) (place : ℕ) → address_in (table_map f table) place ≡ address_in table place
address_in-table_map f table place = rw (class_at-table_map f table (page_number place)) refl
