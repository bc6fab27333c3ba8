-- The first grey block.
use Rattle.std.specs.Prelude.{◌≡◌, ℕ, ◌≤◌, Some, List, length, slice_get}
use Rattle.mh_model.specs.{Pages.Table, Table.{Block, references_at}}
use Rattle.mh_pages.specs.Addresses.{Address, address_in}

-- where a block stands, and how many references it has
pub record FirstGrey : Type 0 where
  pub address : Address
  pub count : ℕ

-- this is the first of the grey blocks
pub record IsFirstGrey (table : Table Block) (grey : List ℕ) (first : FirstGrey) : Type 0 where
  pub place : slice_get grey 0 ≡ Some first.address.place
  pub at : first.address ≡ address_in table first.address.place
  pub count : first.count ≡ length (references_at table first.address.place)
  pub few : first.count ≤ 60
