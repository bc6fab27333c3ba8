-- Steps of the collector: a view that agrees with a world agrees with it after them. Only as the sweep begins may it lose anything, and then only what isn't reachable.
use Rattle.std.proofs.Common.{◌≡◌, ℕ, true, false, List, [], ◌∷◌, Some, None, IsSome, refl, sym, ap, ◌∙◌, subst, arith, eqb-true}
use Rattle.std.proofs.{lemmas.Bool.false≢true, lemmas.Option.none-some, lemmas.List.get_or_past}
use Rattle.mh_model.specs.declared.cycle.Phase.{Phase}
use Rattle.mh_model.specs.{declared.cycle.Phase.TheVariants.{Idle, Roots, Mark, Sweep, Defrag}, World.{Object, World}}
use Rattle.mh_model.specs.{Paths.Agrees, Pages.block_at, Table.Block}
use Rattle.mh_model.specs.Collector.{Collector, mark_step, marking_of, with_marking, with_phase, roots_step, sweep_step, defrag_step, after_mark, is_past, cycle_end, phase_after, step_in, collector_step, is_idle}
use Rattle.mh_model.specs.Mutator.{HeapState, in_roots_or_mark, in_roots}
use Rattle.mh_model.specs.View.{in_sweep, block_of_birth, object_of, object_shown, heap_view}
use Rattle.mh_model.specs.Invariant.{IsPlainAt, IsFromRoot, IsSound, KeepsSnapshot, HeapKeeps}
use Rattle.mh_laws.proofs.{marking.BlockChanges.not_sweep, marking.MarkSteps.{snapshot-roots_step, snapshot-mark_step}}
use Rattle.mh_laws.proofs.sweeping.SweepSteps.{snapshot-sweeping, snapshot-after_mark, snapshot-sweep_step, snapshot-after_sweep}
use Rattle.mh_laws.proofs.moving.MoveSteps.{snapshot-defrag_step, snapshot-cycle_end}
use Rattle.mh_laws.proofs.snapshots.CycleStarts.{births-view, view-shown, first-view}
use Rattle.mh_laws.proofs.showing.FoundBlocks.{held_live, found-first}
use Rattle.mh_laws.proofs.showing.SamePlainBlocks.{IsCarriedTo, plain-held, plain-shown}
use Rattle.mh_run_laws.proofs.{marking.ReachableNow.reachable_is_kept, snapshots.AgreeingWorlds.reachable-view}
use Rattle.mh_run_laws.proofs.showing.MarkingShows.{same-view, view-mark_step, view-roots_step}
use Rattle.mh_run_laws.proofs.{showing.SweepShows.view-sweep_step, showing.MovesShow.view-defrag_step}

-- Reading a view ---------------------------------------------------------------------------------

shown-block : (c : Collector) (birth : ℕ) (object : Object) → object_shown c birth ≡ Some object → (y : Block) × (block_of_birth c birth ≡ Some y) × (object_of c.table y ≡ object)
shown-block c birth object e = grind arith

config-view : (heap : HeapState) (d : Collector) → (heap_view (record heap { collector = d })).config ≡ (heap_view heap).config
unfolding heap_view
config-view heap d = refl

ended-view : (heap : HeapState) (d : Collector) → (heap_view (record heap { collector = d })).ended ≡ (heap_view heap).ended
unfolding heap_view
ended-view heap d = refl

slots-view : (heap : HeapState) (phase : Phase) (cursor : ℕ) → (heap_view (record heap { collector = with_phase heap.collector phase cursor })).slots ≡ (heap_view heap).slots
unfolding heap_view
slots-view heap phase cursor = refl

-- Passages ---------------------------------------------------------------------------------------

-- another phase with the same plain blocks shows the same
turned-view : (heap : HeapState) (phase : Phase) (cursor quanta : ℕ) → IsSound heap.next_birth heap.collector → IsSound heap.next_birth (record (heap.collector) { phase = phase; cursor = cursor; quanta = quanta })
    → IsCarriedTo heap.collector (record (heap.collector) { phase = phase; cursor = cursor; quanta = quanta }) → IsCarriedTo (record (heap.collector) { phase = phase; cursor = cursor; quanta = quanta }) heap.collector
    → heap_view (record heap { collector = record (heap.collector) { phase = phase; cursor = cursor; quanta = quanta } }) ≡ heap_view heap
turned-view heap phase cursor quanta h k forth back =
    same-view
    heap
    (record (heap.collector) { phase = phase; cursor = cursor; quanta = quanta })
    (plain-shown heap.next_birth heap.collector (record (heap.collector) { phase = phase; cursor = cursor; quanta = quanta }) h k (λ p x plain i r e y plain'. plain'.there) forth back)
    refl

-- defragmentation begins
pub view-after_sweep : (snapshot : World) (heap : HeapState) → heap.collector.phase ≡ Sweep → is_past heap.collector.table heap.collector.cursor ≡ true → HeapKeeps snapshot heap → heap_view (record heap { collector = with_phase heap.collector Defrag 0 }) ≡ heap_view heap
view-after_sweep snapshot heap sweeps past h =
    let k : IsSound heap.next_birth (with_phase heap.collector Defrag 0) = (snapshot-after_sweep snapshot heap.next_birth heap.collector sweeps past h).sound in
    grind (arith, turned-view, false≢true)

-- the cycle ends
pub view-cycle_end : (snapshot : World) (heap : HeapState) → heap.collector.phase ≡ Defrag → HeapKeeps snapshot heap → heap_view (record heap { collector = cycle_end heap.collector }) ≡ heap_view heap
view-cycle_end snapshot heap defrags h =
    turned-view
    heap
    Idle
    0
    0
    h.sound
    (snapshot-cycle_end snapshot heap.next_birth heap.collector defrags h).sound
    (λ p x plain. (p, record { there = plain.there; original = plain.original; surviving = λ s. absurd (false≢true s) }))
    (λ p x plain. (p, record { there = plain.there; original = plain.original; surviving = λ s. absurd (false≢true (ap in_sweep (sym defrags) ∙ s)) }))

module _ (snapshot world : World) where
  -- the sweep begins: what is shown no more isn't reachable
  pub agrees-sweeping : (heap : HeapState) → in_roots_or_mark heap.collector.phase ≡ true → heap.collector.grey ≡ [] → ((q : ℕ) → IsFromRoot heap.collector q → ⊥) → HeapKeeps snapshot heap → Agrees (heap_view heap) world
      → Agrees (heap_view (record heap { collector = with_phase heap.collector Sweep 0 })) world
  agrees-sweeping heap marks no_grey no_root h agrees = record {
    config = config-view heap d ∙ agrees.config;
    next_birth = births-view heap' ∙ sym (births-view heap) ∙ agrees.next_birth;
    slots = slots-view heap Sweep 0 ∙ agrees.slots;
    ended = ended-view heap d ∙ agrees.ended;
    objects = λ birth object e.
        let (y, is, same) = shown-block d birth object (view-shown heap' birth object e) in
        let (p, at) = found-first heap.next_birth d k.sound birth y is in
        agrees.objects birth object (first-view heap h.sound birth p y (record { there = at.there; held = plain-held c p y (plain_now p y at.there (held_live d p y at.held)); birth_is = at.birth_is; first = at.first }) ∙ ap Some same);
    reached = λ birth reached.
        let (p, x, plain, is, first, each) = k.cycle.whole refl birth (reachable_is_kept snapshot heap marks h birth (reachable-view (heap_view heap) world agrees birth reached)) in
        subst IsSome (sym (first-view heap' k.sound birth p x (record { there = plain.there; held = plain-held d p x plain; birth_is = is; first = first }))) refl;
  }
    where
      c : Collector
      c = heap.collector

      d : Collector
      d = with_phase heap.collector Sweep 0

      heap' : HeapState
      heap' = record heap { collector = with_phase heap.collector Sweep 0 }

      k : KeepsSnapshot snapshot heap.next_birth (with_phase heap.collector Sweep 0)
      k = snapshot-sweeping snapshot heap.next_birth heap.collector marks no_grey no_root h

      plain_now : (p : ℕ) (y : Block) → block_at heap.collector.table p ≡ Some y → y.forward ≡ None → IsPlainAt heap.collector p y
      plain_now p y there live = grind arith

  -- marking goes on or ends
  agrees-after_mark : (heap : HeapState) → in_roots_or_mark heap.collector.phase ≡ true → ((q : ℕ) → IsFromRoot heap.collector q → ⊥) → HeapKeeps snapshot heap → Agrees (heap_view heap) world → Agrees (heap_view (record heap { collector = after_mark heap.collector heap.collector.grey })) world
  agrees-after_mark heap marks no_root h agrees = go heap.collector.grey refl (snapshot-after_mark snapshot heap.next_birth heap.collector marks no_root h).sound
    where
      go : (grey : List ℕ) → heap.collector.grey ≡ grey → IsSound heap.next_birth (after_mark heap.collector grey) → Agrees (heap_view (record heap { collector = after_mark heap.collector grey })) world
      go [] is k = agrees-sweeping heap marks is no_root h agrees
      go (g ∷ grey) is k = subst (λ v. Agrees v world) (grind (arith, turned-view, k, false≢true, not_sweep)) agrees

  agrees-after_roots : (heap : HeapState) → heap.collector.phase ≡ Roots → HeapKeeps snapshot heap → Agrees (heap_view heap) world → Agrees (heap_view (record heap { collector = phase_after Roots heap.collector })) world
  agrees-after_roots heap phase h agrees = search (arith, none-some, get_or_past, agrees-after_mark, eqb-true)

  agrees-after_sweep : (heap : HeapState) → heap.collector.phase ≡ Sweep → HeapKeeps snapshot heap → Agrees (heap_view heap) world → Agrees (heap_view (record heap { collector = phase_after Sweep heap.collector })) world
  agrees-after_sweep heap phase h agrees = search (arith, view-after_sweep)

  agrees-after_defrag : (heap : HeapState) → heap.collector.phase ≡ Defrag → HeapKeeps snapshot heap → Agrees (heap_view heap) world → Agrees (heap_view (record heap { collector = phase_after Defrag heap.collector })) world
  agrees-after_defrag heap phase h agrees = search (arith, view-cycle_end)

  -- A step of the collector
  pub agrees-collector_step : (heap : HeapState) → is_idle heap.collector.phase ≡ false → HeapKeeps snapshot heap → Agrees (heap_view heap) world → Agrees (heap_view (record heap { collector = collector_step heap.collector })) world
  unfolding collector_step
  agrees-collector_step heap runs h agrees = go heap.collector.phase refl runs
    where
      c : Collector
      c = heap.collector

      shows : (d : Collector) → heap_view (record heap { collector = d }) ≡ heap_view heap → Agrees (heap_view (record heap { collector = d })) world
      shows d same = subst (λ v. Agrees v world) (sym same) agrees

      go : (phase : Phase) → heap.collector.phase ≡ phase → is_idle phase ≡ false → Agrees (heap_view (record heap { collector = phase_after phase (step_in phase heap.collector) })) world
      go Idle is r = absurd (false≢true (sym r))
      go Roots is r = agrees-after_roots (record heap { collector = roots_step c }) refl (snapshot-roots_step snapshot heap.next_birth c is h) (shows (roots_step c) (view-roots_step snapshot heap is h))
      go Mark is r =
          agrees-after_mark
          (record heap { collector = with_marking c (mark_step (marking_of c)) })
          (ap in_roots_or_mark is)
          (λ q from. false≢true (ap in_roots (sym is ∙ from.0)))
          (snapshot-mark_step snapshot heap.next_birth c (ap in_roots_or_mark is) h)
          (shows (with_marking c (mark_step (marking_of c))) (view-mark_step snapshot heap (ap in_roots_or_mark is) h))
      go Sweep is r = agrees-after_sweep (record heap { collector = sweep_step c }) is (snapshot-sweep_step snapshot heap.next_birth c is h) (shows (sweep_step c) (view-sweep_step snapshot heap is h))
      go Defrag is r = agrees-after_defrag (record heap { collector = defrag_step c }) refl (snapshot-defrag_step snapshot heap.next_birth c is h) (shows (defrag_step c) (view-defrag_step snapshot heap is h))
