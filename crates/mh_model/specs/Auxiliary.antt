-- Auxiliary definitions: what loops, private functions and the insides of types keep. No public contract depends on them.
use Rattle.std.specs.Prelude.{◌≡◌, length}
use Rattle.mh_model.specs.{declared.config.Config.Config, World.most_fields, Pages.{Table, HaveTheirSlots}}
use Rattle.mh_model.specs.Table.{Block, HasSmallBlocks}

-- a table has the pages that are configured, and each in use has the slots of its class; its blocks are within limits: the most fields of the rules,
-- and the parts of the largest object
pub record HasItsPages (config : Config) (table : Table Block) : Type 0 where
  pub pages : length table ≡ config.pages
  pub slots : HaveTheirSlots table
  pub limits : HasSmallBlocks (most_fields config) table
