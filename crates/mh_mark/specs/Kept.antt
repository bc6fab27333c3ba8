-- What marking keeps.
use Rattle.std.specs.Prelude.{◌≡◌, ◌⊎◌, ℕ, ◌<◌, true, Option, None, Some, IsSome, is_some, length}
use Rattle.mh_model.specs.{Pages.{block_at, class_at}, Table.{references_at, reference_at, stamp_at, forward_at}}
use Rattle.mh_model.specs.Collector.{Marking}
use Rattle.mh_grey.specs.{Queue.is_in, Shading.AreMarked}
use Rattle.mh_mark.specs.Walkable.{LeadHome}

-- a reference is null, or leads straight to a block that is marked, as `is_reached` says
abbrev pub IsReached : Marking → Option ℕ → Type 0
IsReached marking None = Unit {0}
IsReached marking (Some place) = (forward_at marking.table place ≡ None) × (stamp_at marking.table place ≡ marking.cycle)

-- each reference of the block at a place is so, as `is_settled` says
abbrev pub HasSettledReferences : Marking → ℕ → Type 0
HasSettledReferences marking place = (index : ℕ) → index < length (references_at marking.table place) → IsReached marking (reference_at marking.table place index)

-- what marking leaves as it was: the classes of pages, and where each block is, where it leads and how many references it has.
-- References that led home still do, marked grey places and settled blocks stay so, and what is newly grey is no forwarder
pub record KeepsMarking (old new : Marking) : Type 0 where
  pub there : (place : ℕ) → is_some (block_at new.table place) ≡ is_some (block_at old.table place)
  pub forwards : (place : ℕ) → forward_at new.table place ≡ forward_at old.table place
  pub classes : (page : ℕ) → class_at new.table page ≡ class_at old.table page
  pub long : length new.table ≡ length old.table
  pub counts : (place : ℕ) → length (references_at new.table place) ≡ length (references_at old.table place)
  pub lead : (place : ℕ) → LeadHome old.table place → LeadHome new.table place
  pub cycle : new.cycle ≡ old.cycle
  pub marked : AreMarked old.table old.cycle old.grey → AreMarked new.table new.cycle new.grey
  pub settled : (place : ℕ) → HasSettledReferences old place → HasSettledReferences new place
  pub grey : (place : ℕ) → is_in place new.grey ≡ true → (is_in place old.grey ≡ true) ⊎ (IsSome (block_at new.table place) × (forward_at new.table place ≡ None))
