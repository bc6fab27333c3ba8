-- The first part of an object has the object's shape in its header, and each part has the children that its shape gives it.
use Rattle.std.proofs.Common.{◌≡◌, ℕ, Some, None, ◌∙◌, arith}
use Rattle.mh_model.specs.{Pages.block_at, Table.Block, Collector.Collector}
use Rattle.mh_model.specs.Invariant.{IsSound, HasFieldsAt, first_child}
use Rattle.mh_table_laws.proofs.objects.Parts.{IsFirst, first_part}

module _ (n : ℕ) (c : Collector) (h : IsSound n c) where
  -- the first part of an object
  pub first_is : (p : ℕ) (z : Block) (there : block_at c.table p ≡ Some z) → z.part ≡ 0 → IsFirst (h.shapes z.birth).references (h.shapes z.birth).numbers (h.parts p z there).part
  first_is p z there first = search (arith, first_part)

  pub header_is : (p : ℕ) (z : Block) → block_at c.table p ≡ Some z → z.part ≡ 0 → z.header ≡ record { references = (h.shapes z.birth).references; numbers = (h.shapes z.birth).numbers }
  header_is p z there first = (h.parts p z there).header ∙ (first_is p z there first).header

  -- a block that has fields itself has no children
  pub flat_of : (place : ℕ) (block : Block) → HasFieldsAt c place block → first_child (h.shapes block.birth) block.part ≡ None
  flat_of place block f = grind (arith, header_is)
