-- What scanning asks for, and what it finds.
use Rattle.std.specs.Prelude.{ℕ, ◌<◌, ◌==◌, Bool, true, not, ◌&&◌, Option, None, Some, IsSome, is_some, List, length, get_or, map}
use Rattle.std.specs.List.{list_all}
use Rattle.arrayvec.specs.ArrayVec.{ArrayVec}
use Rattle.mh_model.specs.Pages.{Table, block_at, Leads}
use Rattle.mh_model.specs.Table.{Block, references_at, reference_at, stamp_at, forward_at}

-- a block is at a place, and each of its references is null or the place of a block
pub record IsScannable (table : Table Block) (place : ℕ) : Type 0 where
  pub there : IsSome (block_at table place)
  pub lead : (index : ℕ) → index < length (references_at table place) → Leads table (reference_at table place index)

-- each place of a batch is that of such a block
abbrev pub AreScannable : Table Block → List ℕ → Type 0
AreScannable table batch = (index : ℕ) → index < length batch → IsScannable table (get_or batch index 0)

-- what was found of each block, as a list
abbrev pub lists : List (ArrayVec (Option ℕ)) → List (List (Option ℕ))
lists found = map (λ one. one.items) found

-- a reference is null, or leads straight to a block that is marked in a cycle
abbrev pub is_reached : Table Block → ℕ → Option ℕ → Bool
is_reached table cycle None = true
is_reached table cycle (Some place) = not (is_some (forward_at table place)) && (stamp_at table place == cycle)

-- a block is settled in a cycle if each of its references is so: marking through it would change nothing
abbrev pub is_settled : Table Block → ℕ → ℕ → Bool
is_settled table cycle place = list_all (is_reached table cycle) (references_at table place)

-- whether each block of a batch is settled, in order
abbrev pub settled_in : Table Block → ℕ → List ℕ → List Bool
settled_in table cycle batch = map (is_settled table cycle) batch
