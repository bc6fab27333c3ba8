-- While blocks are marked, what is reachable in the view now was reached by the snapshot or is born since, so the running cycle keeps it.
-- That is why nothing reachable is lost as the sweep begins.
use Rattle.std.proofs.{Common.{◌≡◌, ℕ, true, inl, inr, Some, sym, ap, ◌∙◌, subst, arith}, lemmas.Option.same_Some}
use Rattle.mh_model.specs.{World.{World, object_at, slot_at, reference_of}, Paths.{Refers, Reachable}}
use Rattle.mh_model.specs.{Pages.{Table, block_at}, Table.{Block, resolve}, Mutator.{HeapState, in_roots_or_mark}}
use Rattle.mh_model.specs.{View.{arraylet_words, object_of, heap_view}, Snapshot.IsKept, Invariant.HeapKeeps}
use Rattle.mh_run_laws.proofs.worlds.Agreement.{Reachable-in}
use Rattle.mh_laws.proofs.{marking.MarkSteps.runs, showing.ObjectsShown.{named-back, refers-back}}
use Rattle.mh_laws.proofs.{snapshots.CycleStarts.{slot-view, shown_object}, marking.BlockChanges.no_sweep}
use Rattle.mh_table_laws.proofs.{objects.JoinedFields.{an_arraylet, arraylet_count}, Lists.below_length}

pub reachable_is_kept : (snapshot : World) (heap : HeapState) → in_roots_or_mark heap.collector.phase ≡ true → HeapKeeps snapshot heap → (birth : ℕ) → Reachable (heap_view heap) birth → IsKept snapshot heap.next_birth birth
reachable_is_kept snapshot heap marks h birth (path, is_path) = Reachable-in (heap_view heap) (IsKept snapshot heap.next_birth) in_slots along path birth is_path
  where
    t₀ : Table Block
    t₀ = heap.collector.table

    in_slots : (slot b : ℕ) → slot_at (heap_view heap) slot ≡ Some b → IsKept snapshot heap.next_birth b
    in_slots slot b e = grind (arith, named-back, t₀, slot-view)

    along : (near b : ℕ) → IsKept snapshot heap.next_birth near → Refers (heap_view heap) near b → IsKept snapshot heap.next_birth b
    along near b kept (field, e) =
        let (p, z, plain, birth_z, first, each) = h.cycle.whole (runs heap.collector.phase marks) near kept in
        let shown_z : object_at (heap_view heap) near ≡ Some (object_of t₀ z) = shown_object heap (no_sweep heap.collector.phase marks) h.sound near p z plain.there plain.original first birth_z in
        let (y, is_field, (j, r, t, word, there_t, is)) = refers-back t₀ z field b (ap (λ o. reference_of o field) (sym shown_z) ∙ e) in
        subst (IsKept snapshot heap.next_birth) is (elim is_field [
          | inl k ↦ h.cycle.references marks p y j r t (plain.there ∙ ap Some (sym k.1)) (ap (λ x. x.forward) k.1 ∙ plain.original) (subst (IsKept snapshot heap.next_birth) (sym (ap (λ x. x.birth) k.1 ∙ birth_z)) kept) word there_t
          | inr k ↦
              let (i, s, word_s, there_y) = k.1 in
              let count = arraylet_count heap.next_birth heap.collector h.sound p z plain first k.0 in
              let a = an_arraylet heap.next_birth heap.collector h.sound p z plain first k.0 i (omega (arith, count, below_length (arraylet_words t₀ z) i s word_s)) in
              let same_s : a.reference ≡ s = same_Some a.reference s (sym a.word ∙ word_s) in
              let same : a.block ≡ y = same_Some a.block y (sym a.leads.there ∙ ap (λ w. block_at t₀ (resolve t₀ w)) same_s ∙ there_y) in
              h.cycle.references marks (resolve t₀ s) y j r t there_y (ap (λ (w : Block). w.forward) (sym same) ∙ a.leads.original) (subst (IsKept snapshot heap.next_birth) (sym (ap (λ (w : Block). w.birth) (sym same) ∙ a.birth ∙ birth_z)) kept) word there_t
        ])
