-- What commands find: the objects that slots hold, where the fields of objects lie, and what references lead to.
use Rattle.std.specs.Prelude.{◌≡◌, ℕ, ◌+◌, ◌<◌, Option, Some, None, get_or}
use Rattle.mh_model.specs.declared.shape.Shape.{Shape}
use Rattle.mh_model.specs.Table.{Block, reference_at, LeadsOn, LeadsHome, position_of, reference_in, loaded_reference}
use Rattle.mh_model.specs.{Collector.Collector, Mutator.{HeapState, root_at, shape_at}}
use Rattle.mh_model.specs.Invariant.{IsIn, IsPlainAt, LeadsToObject, IsKeeping, IsSteady, IsObjectAt, IsFindable, HasField}

-- A slot of a kept heap holds the place of an object, whose shape is the one that is seen there; or it is empty, and no shape is seen
pub record SlotsHoldObjects : Type 0 where
  pub held : (heap : HeapState) → IsKeeping heap → (slot place : ℕ) → root_at heap slot ≡ Some place → (shape : Shape) × IsObjectAt heap.collector place shape × (shape_at heap slot ≡ Some shape)
  pub seen : (heap : HeapState) → IsKeeping heap → (slot : ℕ) (shape : Shape) → shape_at heap slot ≡ Some shape → (place : ℕ) × (root_at heap slot ≡ Some place) × IsObjectAt heap.collector place shape

-- Each field of an object is found: the references on the way lead to blocks, and at its place is a block with as many references and numbers
pub record FieldsAreFound : Type 0 where
  pub findable : (collector : Collector) → IsSteady collector → (place : ℕ) (shape : Shape) → IsObjectAt collector place shape → (field : ℕ) → field < shape.references + shape.numbers → IsFindable collector.table place field
  pub lies : (collector : Collector) → IsSteady collector → (place : ℕ) (shape : Shape) → IsObjectAt collector place shape → (field : ℕ) → field < shape.references + shape.numbers → HasField collector place shape field

-- a reference that is null, or leads to a block that is no forwarder, with a block on the way
pub record LeadsThere (collector : Collector) (reference : Option ℕ) : Type 0 where
  pub on : LeadsOn collector.table reference
  pub home : LeadsHome collector.table reference

-- References of slots and of objects' fields lead to objects, also as they are loaded. Those of any plain block lead to blocks that are no
-- forwarders. A grey place has a plain block, which is marked
pub record ReferencesLeadOn : Type 0 where
  pub slots : (collector : Collector) → IsSteady collector → (slot : ℕ) → LeadsThere collector (get_or collector.slots slot None)
  pub words : (collector : Collector) → IsSteady collector → (place : ℕ) (block : Block) → IsPlainAt collector place block → (index : ℕ) → LeadsThere collector (reference_at collector.table place index)
  pub objects : (collector : Collector) → IsSteady collector → (slot place : ℕ) → get_or collector.slots slot None ≡ Some place → (shape : Shape) × IsObjectAt collector place shape
  pub fields : (collector : Collector) → IsSteady collector → (place : ℕ) (shape : Shape) → IsObjectAt collector place shape → (field : ℕ) → field < shape.references → (reference : ℕ) → reference_in collector.table (position_of collector.table place field) ≡ Some reference → LeadsToObject collector reference
  pub loaded : (collector : Collector) → IsSteady collector → (place : ℕ) (shape : Shape) → IsObjectAt collector place shape → (field : ℕ) → field < shape.references → (target : ℕ) → loaded_reference collector.table (position_of collector.table place field) ≡ Some target
      → (other : Shape) × IsObjectAt collector target other
  pub grey : (collector : Collector) → IsSteady collector → (place : ℕ) → IsIn place collector.grey → (block : Block) × IsPlainAt collector place block × (block.stamp ≡ collector.cycle)
