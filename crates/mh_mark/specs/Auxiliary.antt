-- Auxiliary definitions: what loops, private functions and the insides of types keep. No public contract depends on them.
use Rattle.std.specs.Prelude.{ℕ, ◌<◌, IsSome, List, [], ◌∷◌, length, get_or, ◌≡◌, Option, Some, None}
use Rattle.mh_model.specs.{Pages.{Table, block_at}, Table.{Block, references_at, forward_at}}
use Rattle.mh_model.specs.Collector.{Marking, mark_references}
use Rattle.mh_mark.specs.Walkable.{LeadHome}

-- a block is at a place, and its references lead to blocks that are no forwarders
pub record IsMarkable (table : Table Block) (place : ℕ) : Type 0 where
  pub there : IsSome (block_at table place)
  pub lead : LeadHome table place

-- each place of a batch is that of such a block
abbrev pub AreMarkable : Table Block → List ℕ → Type 0
AreMarkable table batch = (index : ℕ) → index < length batch → IsMarkable table (get_or batch index 0)

-- blocks marked through one after the other, none of them in the grey list
abbrev pub blocks_marked : Marking → List ℕ → Marking
blocks_marked marking [] = marking
blocks_marked marking (place ∷ batch) = blocks_marked (mark_references marking place 0 (references_at marking.table place)) batch

-- a reference is null, or the place of a block that is no forwarder
abbrev pub IsResolved : Table Block → Option ℕ → Type 0
IsResolved table None = Unit {0}
IsResolved table (Some place) = IsSome (block_at table place) × (forward_at table place ≡ None)
