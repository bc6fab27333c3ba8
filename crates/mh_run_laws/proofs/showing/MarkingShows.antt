-- The steps that scan roots and mark change nothing of what the heap shows.
use Rattle.std.proofs.Common.{◌≡◌, ℕ, zero, suc, ◌+◌, true, false, inl, List, [], ◌∷◌, get_or, set, map, Option, Some, None, option_map, unwrap_or, refl, sym, ap, ◌∙◌, subst, arith}
use Rattle.mh_model.specs.{declared.cycle.Phase.TheVariants.Roots, World.World, Pages.{Table, block_at, with_block}}
use Rattle.mh_model.specs.Table.{Block, references_at, with_reference_at, resolve, target_of}
use Rattle.mh_model.specs.Collector.{Collector, Marking, mark_reference, mark_references, mark_first, mark_step, marking_of, with_marking, roots_step}
use Rattle.mh_model.specs.{Mutator.{HeapState, in_roots_or_mark}, View.{in_sweep, birth_named, object_shown, heap_view}}
use Rattle.mh_model.specs.Invariant.{IsIn, IsPlainAt, IsSound, KeepsSnapshot, HeapKeeps}
use Rattle.mh_laws.proofs.marking.BlockChanges.{resolve-live, not_sweep, no_sweep}
use Rattle.mh_laws.proofs.marking.MarkSteps.{leads, snapshot-mark_step, snapshot-roots_step}
use Rattle.mh_run_laws.proofs.showing.AlikeTables.{bare, IsAlike, resolve-alike, roots-alike, alike-with_block, alike-forth, alike-shade, read-map, alike-shown, with_shade-alike}

-- What shows the same ----------------------------------------------------------------------------

-- a heap with another collector shows the same if each birth and the slots do
pub same-view : (heap : HeapState) (d : Collector) → ((birth : ℕ) → object_shown d birth ≡ object_shown heap.collector birth) → map (birth_named d.table) d.slots ≡ map (birth_named heap.collector.table) heap.collector.slots
    → heap_view (record heap { collector = d }) ≡ heap_view heap
unfolding heap_view
same-view heap d objects slots = grind arith

-- two states of which no one is in the sweep, with alike tables
pub alike-view : (snapshot : World) (heap : HeapState) (d : Collector) → in_sweep heap.collector.phase ≡ false → in_sweep d.phase ≡ false → HeapKeeps snapshot heap → KeepsSnapshot snapshot heap.next_birth d → d.slots ≡ heap.collector.slots
    → IsAlike heap.collector.table d.table → heap_view (record heap { collector = d }) ≡ heap_view heap
alike-view snapshot heap d no_sweep no_sweep' h k slots alike =
    same-view
    heap
    d
    (alike-shown heap.next_birth heap.next_birth heap.collector d h.sound k.sound no_sweep no_sweep' alike)
    (ap (map (birth_named d.table)) slots ∙ roots-alike heap.collector.table d.table alike heap.collector.slots)

-- Marking ----------------------------------------------------------------------------------------

module _ (first : Table Block) where
  set-same : (xs : List (Option ℕ)) (i : ℕ) (y : Option ℕ) → option_map (resolve first) y ≡ get_or (map (option_map (resolve first)) xs) i None → map (option_map (resolve first)) (set xs i y) ≡ map (option_map (resolve first)) xs
  set-same (x ∷ xs) (suc i) y e = ap (λ zs. option_map (resolve first) x ∷ zs) (set-same xs i y e)
  set-same xs i y e = grind arith

  module _ (g : ℕ) (b : Block) (there : block_at first g ≡ Some b) (twice : (i r : ℕ) → get_or b.references i None ≡ Some r → resolve first (resolve first r) ≡ resolve first r) where
    -- a reference is resolved and written back
    alike-stored : (table : Table Block) (index : ℕ) (o : Option ℕ) → get_or b.references index None ≡ o → IsAlike first table → IsAlike first (with_reference_at table g index (target_of table o))
    alike-stored table index o read alike =
        let (x, at, same) = alike-forth first table alike g b there in
        subst
        (λ content. IsAlike first (with_block table g (option_map (λ (z : Block). record z { references = set z.references index (target_of table o) }) content)))
        (sym at)
        (alike-with_block first table g x (record x { references = set x.references index (target_of table o) }) at (ap {A = List (Option ℕ)} (λ zs. record x { stamp = 0; references = zs }) (set-same x.references index (target_of table o) (leads_so x same o read))) alike)
      where
        to_same : (p : Option ℕ) → get_or b.references index None ≡ p → option_map (resolve first) (target_of table p) ≡ option_map (resolve first) p
        to_same p e = grind (arith, resolve-alike)

        leads_so : (x : Block) → bare first x ≡ bare first b → (p : Option ℕ) → get_or b.references index None ≡ p → option_map (resolve first) (target_of table p) ≡ get_or (map (option_map (resolve first)) x.references) index None
        leads_so x same p e = grind (arith, to_same, read-map)

    alike-references : (refs : List (Option ℕ)) (m : Marking) (index : ℕ) → ((k : ℕ) → get_or b.references (index + k) None ≡ get_or refs k None) → IsAlike first m.table → IsAlike first (mark_references m g index refs).table
    alike-references [] m index ahead alike = alike
    alike-references (o ∷ refs) m index ahead alike =
        let start : index + 0 ≡ index = omega arith in
        let read : get_or b.references index None ≡ o = ap (λ k. get_or b.references k None) (sym start) ∙ ahead zero in
        alike-references
        refs
        (mark_reference m g index o)
        (suc index)
        (λ k. let e : suc index + k ≡ index + suc k = omega arith in ap (λ i. get_or b.references i None) e ∙ ahead (suc k))
        (alike-shade first (record m { table = with_reference_at m.table g index (target_of m.table o) }) (target_of m.table o) (alike-stored m.table index o read alike))

-- a mark step leaves an alike table
alike-mark_step : (n : ℕ) (c : Collector) → in_roots_or_mark c.phase ≡ true → IsSound n c → IsAlike c.table (mark_step (marking_of c)).table
alike-mark_step n c marks h = go c.grey refl
  where
    go : (grey : List ℕ) → c.grey ≡ grey → IsAlike c.table (mark_first (marking_of c) grey).table
    go [] is = λ place. refl
    go (g ∷ grey) is =
        let (b, there, live, black) = h.grey g (subst (IsIn g) (sym is) (inl refl)) in
        let plain : IsPlainAt c g b = record { there = there; original = live; surviving = λ s. absurd (not_sweep c.phase marks s) } in
        alike-references
        c.table
        g
        b
        there
        (λ i r e. let (x, plain') = leads n c h g b plain i r e in resolve-live c.table (resolve c.table r) x plain'.there plain'.original)
        (references_at c.table g)
        (record (marking_of c) { grey = grey })
        0
        (λ k. let e : 0 + k ≡ k = omega arith in ap (λ z. get_or b.references z None) e ∙ ap (λ o. get_or (unwrap_or (option_map (λ (x : Block). x.references) o) []) k None) (sym there))
        (λ place. refl)

-- A mark step shows the same
pub view-mark_step : (snapshot : World) (heap : HeapState) → in_roots_or_mark heap.collector.phase ≡ true → HeapKeeps snapshot heap → heap_view (record heap { collector = with_marking heap.collector (mark_step (marking_of heap.collector)) }) ≡ heap_view heap
view-mark_step snapshot heap marks h = search (arith, alike-view, no_sweep, snapshot-mark_step, alike-mark_step)

-- And so does a roots step
pub view-roots_step : (snapshot : World) (heap : HeapState) → heap.collector.phase ≡ Roots → HeapKeeps snapshot heap → heap_view (record heap { collector = roots_step heap.collector }) ≡ heap_view heap
view-roots_step snapshot heap phase h =
    alike-view
    snapshot
    heap
    (roots_step heap.collector)
    (ap in_sweep phase)
    refl
    h
    (snapshot-roots_step snapshot heap.next_birth heap.collector phase h)
    refl
    (with_shade-alike heap.collector (get_or heap.collector.slots heap.collector.cursor None))
