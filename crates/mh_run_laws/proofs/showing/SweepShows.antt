-- Sweep steps, and the passages that follow the sweep and defragmentation, change nothing of what the heap shows.
use Rattle.std.proofs.Common.{◌≡◌, sym, ap, ◌∙◌}
use Rattle.mh_model.specs.{declared.cycle.Phase.TheVariants.Sweep, World.World, Pages.block_at}
use Rattle.mh_model.specs.{Collector.{Collector, sweep_step}, Mutator.HeapState, View.heap_view, Invariant.HeapKeeps}
use Rattle.mh_laws.proofs.marking.BlockChanges.{resolve-live}
use Rattle.mh_laws.proofs.sweeping.SweepSteps.{plain_forth, plain_back, referred_then, snapshot-sweep_step}
use Rattle.mh_laws.proofs.showing.SamePlainBlocks.{plain-shown, roots-same}
use Rattle.mh_run_laws.proofs.showing.MarkingShows.{same-view}

-- A sweep step shows the same
pub view-sweep_step : (snapshot : World) (heap : HeapState) → heap.collector.phase ≡ Sweep → HeapKeeps snapshot heap → heap_view (record heap { collector = sweep_step heap.collector }) ≡ heap_view heap
view-sweep_step snapshot heap sweeps h =
    same-view
    heap
    d
    (plain-shown
    heap.next_birth
    c
    d
    h.sound
    (snapshot-sweep_step snapshot heap.next_birth c sweeps h).sound
    (λ p x plain i r e y plain'. (referred_then snapshot heap.next_birth c sweeps h p x plain i r e y plain').there)
    (λ p x plain. (p, plain_forth snapshot heap.next_birth c sweeps h p x plain))
    (λ p x plain. (p, plain_back snapshot heap.next_birth c sweeps h p x plain)))
    (roots-same c.table d.table c.slots (λ i r e.
    let (x, plain, first) = h.sound.slots i r e in
    let plain' = plain_forth snapshot heap.next_birth c sweeps h r x plain in
    ap (block_at d.table) (resolve-live d.table r x plain'.there plain'.original) ∙ plain'.there ∙ sym plain.there ∙ ap (block_at c.table) (sym (resolve-live c.table r x plain.there plain.original))))
  where
    c : Collector
    c = heap.collector

    d : Collector
    d = sweep_step heap.collector
