-- What a kept heap shows is closed, and agrees with itself.
use Rattle.std.proofs.Common.{◌≡◌, ℕ, ◌<◌, List, [], ◌∷◌, Option, Some, None, option_map, is_some, IsSome, get_or, length, refl, sym, ap, ◌∙◌, arith}
use Rattle.std.proofs.lemmas.Option.{none-some, same_Some}
use Rattle.mh_model.specs.declared.shape.Shape.{Shape}
use Rattle.mh_model.specs.{World.{Object, World, IsClosed, object_at, slot_at, reference_of}, Paths.{IsPath, Agrees}}
use Rattle.mh_model.specs.{Pages.block_at, Table.{Block, resolve, position_of}, Collector.Collector, Mutator.HeapState}
use Rattle.mh_model.specs.{View.{block_of_birth, object_of, heap_view}, Invariant.{IsPlainAt, IsSound, IsKeeping}}
use Rattle.mh_table_laws.proofs.{Lists.below_length, objects.Headers.flat_of}
use Rattle.mh_table_laws.proofs.objects.JoinedFields.{shape_is, laid, has_fields, reference_read}
use Rattle.mh_laws.proofs.{marking.BlockChanges.resolve-live, showing.ObjectsShown.named-back}
use Rattle.mh_laws.proofs.{showing.FoundBlocks.found-first, showing.SamePlainBlocks.{plain-held, held-plain}}
use Rattle.mh_laws.proofs.snapshots.CycleStarts.{slot-view, view-shown, first-view}

module _ (heap : HeapState) (keeping : IsKeeping heap) where
  abbrev c : Collector
  c = heap.collector

  h : IsSound heap.next_birth heap.collector
  h = keeping.1.sound

  -- the object of a plain part 0 is shown
  shown-there : (place : ℕ) (z : Block) → IsPlainAt c place z → z.part ≡ 0 → IsSome (object_at (heap_view heap) z.birth)
  shown-there place z plain first = ap is_some (first-view heap h z.birth place z (record { there = plain.there; held = plain-held c place z plain; birth_is = refl; first = first }))

  -- a reference that leads to an object names one that is shown
  named-there : (reference birth : ℕ) (t : Block) → block_at c.table (resolve c.table reference) ≡ Some t → t.birth ≡ birth → (z : Block) → IsPlainAt c (resolve c.table reference) z → z.part ≡ 0 → IsSome (object_at (heap_view heap) birth)
  named-there reference birth t there is z plain first = grind (arith, same_Some, shown-there)

  slots-there : (slot birth : ℕ) → slot_at (heap_view heap) slot ≡ Some birth → IsSome (object_at (heap_view heap) birth)
  slots-there slot birth is = search (arith, named-back, slot-view, resolve-live, named-there)

  -- an object's reference
  field-there : (place : ℕ) (y : Block) → IsPlainAt c place y → y.part ≡ 0 → (field target : ℕ) → get_or (object_of c.table y).references field None ≡ Some target → IsSome (object_at (heap_view heap) target)
  field-there place y plain first field target is =
      let count : length (object_of c.table y).references ≡ y.header.references = ap (λ (s : Shape). s.references) (shape_is heap.next_birth c h place y plain first) in
      let below : field < y.header.references = omega (arith, count, below_length (object_of c.table y).references field target is) in
      let l = laid heap.next_birth c h place y plain first field (omega (arith, below)) in
      let at : ℕ = (position_of c.table place field).place in
      let index : ℕ = (position_of c.table place field).index in
      let (r, t, word, there, b) = named-back c.table target l.block.references index (sym (reference_read heap.next_birth c h place y plain first field below l) ∙ is) in
      let (z, plain_z, first_z) = h.fields at l.block l.lies (flat_of heap.next_birth c h at l.block (has_fields heap.next_birth c h place y plain first field l)) index r word in
      named-there r target t there b z plain_z first_z

  references-there : (birth field target : ℕ) → reference_of (object_at (heap_view heap) birth) field ≡ Some target → IsSome (object_at (heap_view heap) target)
  references-there birth field target is = go (object_at (heap_view heap) birth) refl is
    where
      by : (object : Object) (o : Option Block) → block_of_birth c birth ≡ o → option_map (object_of c.table) o ≡ Some object → get_or object.references field None ≡ Some target → IsSome (object_at (heap_view heap) target)
      by object None found e is = absurd (none-some object e)
      by object (Some y) found e is =
          let (place, first) = found-first heap.next_birth c h birth y found in
          field-there place y (held-plain heap.next_birth c h place y first.there first.held) first.first field target (ap (λ (x : Object). get_or x.references field None) (same_Some (object_of c.table y) object e) ∙ is)

      go : (o : Option Object) → object_at (heap_view heap) birth ≡ o → reference_of o field ≡ Some target → IsSome (object_at (heap_view heap) target)
      go o at e = grind (arith, none-some, by, view-shown)

  pub closed-view : IsClosed (heap_view heap)
  closed-view = record { slots = slots-there; references = references-there }

-- a path of a closed world ends at an object that is there
path-there : (world : World) → IsClosed world → (path : List ℕ) (birth : ℕ) → IsPath world birth path → IsSome (object_at world birth)
path-there world closed [] birth (slot, named) = closed.slots slot birth named
path-there world closed (nearest ∷ path) birth ((field, refers), before) = closed.references nearest field birth refers

-- What a kept heap shows agrees with itself
pub self-agrees : (heap : HeapState) → IsKeeping heap → Agrees (heap_view heap) (heap_view heap)
self-agrees heap keeping = grind (arith, path-there, closed-view)
