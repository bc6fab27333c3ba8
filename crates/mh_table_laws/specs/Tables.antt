-- Tables whose pages have the slots of their classes, and what stays of them while blocks are marked. A law is a fact that follows from the model
-- alone. It is a definition in the `specs/` of a crate of laws. A function in the `src/` of the same crate ensures it and has nothing to do. So the
-- check proves a law as it proves any contract. The laws speak of the machine of the model alone. The contracts of a crate say that its code does
-- what the model's functions compute, and so a law says something of the code.
use Rattle.std.specs.Prelude.{◌≡◌, ℕ, ◌≤◌, Some, length}
use Rattle.mh_model.specs.{Pages.{Page, Table, page_at, HaveTheirSlots}, Table.{Block, HasSmallBlocks, references_at}}

-- a table that keeps its pages: it has as many; if each page in use had the slots of its class, each has; and if each block was within the limits of
-- objects, each is. The fields that these limits allow are no fewer than those of an object made meanwhile
pub record KeepsItsPages (made : ℕ) (old new : Table Block) : Type 0 where
  pub pages : length new ≡ length old
  pub slots : HaveTheirSlots old → HaveTheirSlots new
  pub limits : (most : ℕ) → made ≤ most → HasSmallBlocks most old → HasSmallBlocks most new

-- a table whose classes have at most 64 words, and whose blocks have at most 60 references
pub record IsSized (table : Table Block) : Type 0 where
  pub classes : (number : ℕ) (page : Page Block) → page_at table number ≡ Some page → page.class_size ≤ 64
  pub references : (place : ℕ) → length (references_at table place) ≤ 60
