-- What marking asks for.
use Rattle.std.specs.Prelude.{◌≡◌, ℕ, ◌<◌, true, IsSome, List, length}
use Rattle.mh_model.specs.{Pages.{Table, block_at}, Table.{Block, references_at, reference_at, LeadsHome}}
use Rattle.mh_grey.specs.{Queue.is_in, Shading.AreMarked}

-- the references of the block at a place lead in one hop at most to blocks that are no forwarders
abbrev pub LeadHome : Table Block → ℕ → Type 0
LeadHome table place = (index : ℕ) → index < length (references_at table place) → LeadsHome table (reference_at table place index)

-- the grey places have blocks, which are marked and whose references lead to blocks that are no forwarders
pub record IsWalkable (table : Table Block) (cycle : ℕ) (grey : List ℕ) : Type 0 where
  pub there : (place : ℕ) → is_in place grey ≡ true → IsSome (block_at table place)
  pub lead : (place : ℕ) → is_in place grey ≡ true → LeadHome table place
  pub marked : AreMarked table cycle grey
