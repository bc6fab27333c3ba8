-- Auxiliary definitions: what loops, private functions and the insides of types keep. No public contract depends on them.
use Rattle.std.specs.Prelude.{◌≡◌, ◌≤◌, ◌+◌, IsSome, ℕ, zero, suc, Bool, true, false, Some, None, List, [], length, get_or, replicate, slice_get, if◌then◌else◌, unwrap_or, ◌∷◌, ◌==◌, ◌&&◌, not, is_some, count_by}
use Rattle.mh_model.specs.Classes.{Part, class_of, part_words}
use Rattle.mh_model.specs.{Pages.{Table, page_number, block_at, count_at, with_released, flag_at}, Table.Block}
use Rattle.mh_model.specs.{declared.deed.Deed.Deed, declared.deed.Tier.Tier}
use Rattle.mh_model.specs.declared.deed.Tier.TheVariants.{Dense, Fresh, Sparse}

-- Parts made one after the other, how they are taken back, and what they are before they are linked.

-- the children of each part are among the parts, and after a part without children no part has any
pub record HaveTheirChildren (list : List Part) : Type 0 where
  pub within : (index : ℕ) (part : Part) (child : ℕ) → slice_get list index ≡ Some part → part.children ≡ Some child → child + part.references ≤ length list
  pub last : (index later : ℕ) (part other : Part) → index ≤ later → slice_get list index ≡ Some part → part.children ≡ None → slice_get list later ≡ Some other → other.children ≡ None

-- the table with so many parts taken back from the last to the first, and with each the page that it took
abbrev pub without_parts : Table Block → List ℕ → List Bool → ℕ → Table Block
without_parts table places fresh zero = table
without_parts table places fresh (suc count) = without_parts (with_released table (get_or places count 0) (get_or fresh count false)) places fresh count

-- a part is at a place, and it is alone in its page where that is to be freed with it
pub record CanBeUnmade (table : Table Block) (place : ℕ) (frees_page : Bool) : Type 0 where
  pub there : IsSome (block_at table place)
  pub alone : frees_page ≡ true → count_at table (page_number place) ≡ 1

-- so many parts can be taken back from the last to the first
abbrev pub AllCanBeUnmade : Table Block → List ℕ → List Bool → ℕ → Type 0
AllCanBeUnmade table places fresh zero = Unit {0}
AllCanBeUnmade table places fresh (suc count) =
    CanBeUnmade table (get_or places count 0) (get_or fresh count false) × AllCanBeUnmade (with_released table (get_or places count 0) (get_or fresh count false)) places fresh count

-- a part is at a place as it was made, with all its references null
pub record IsUnlinked (table : Table Block) (place number : ℕ) (part : Part) : Type 0 where
  pub block : Block
  pub there : block_at table place ≡ Some block
  pub number_is : block.part ≡ number
  pub references : block.references ≡ replicate part.references None

-- and so is each part from this one on
abbrev pub AreUnlinked : Table Block → List ℕ → List Part → ℕ → Type 0
AreUnlinked table places list first = (number : ℕ) (part : Part) → first ≤ number → slice_get list number ≡ Some part → IsUnlinked table (get_or places number 0) number part

-- Parts as a making tells them: where each was placed, and the tier that found its place.

-- a tier by the flag of the page, and by whether the page was free before
abbrev pub tier_by : Bool → Bool → Tier
tier_by is_flagged true = Fresh
tier_by is_flagged false = if is_flagged then Sparse else Dense

-- The tier that found a place. The flag of its page is the same after a block is put there
abbrev pub tier_at : Table Block → ℕ → Bool → Tier
tier_at table place is_fresh = tier_by (flag_at table (page_number place)) is_fresh

-- a part of an object with this birth at a place that this tier found
abbrev pub part_deed : ℕ → ℕ → Part → ℕ → Tier → Deed
part_deed birth index part place tier =
    Deed.Make place (record { birth = birth; part = index }) (unwrap_or (class_of (part_words part)) 0) (record { references = part.references; numbers = part.numbers }) tier

-- the part of this number by the lists of all places and of whether their pages were free before
abbrev pub placed_deed : Table Block → ℕ → List ℕ → List Bool → ℕ → Part → Deed
placed_deed table birth places fresh index part = part_deed birth index part (get_or places index 0) (tier_at table (get_or places index 0) (get_or fresh index false))

-- parts in order from this number on
abbrev pub placed_deeds : Table Block → ℕ → List ℕ → List Bool → ℕ → List Part → List Deed
placed_deeds table birth places fresh index [] = []
placed_deeds table birth places fresh index (part ∷ parts) = placed_deed table birth places fresh index part ∷ placed_deeds table birth places fresh (suc index) parts

-- Which parts of an object fill a block of the largest class, and so need a place of it.

-- a part with 60 fields of its own, whose block has all 64 words of the largest class
abbrev pub is_full : Part → Bool
is_full part = not (is_some part.children) && (part_words part == 64)

-- how many parts are so
abbrev pub full_count : List Part → ℕ
full_count list = count_by is_full list
