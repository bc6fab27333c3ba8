use Rattle.std.proofs.Common.{◌≡◌, ℕ, ◌+◌, List, Some, map, take, drop, slice_get, ap, subst, add-one}
use Rattle.mh_model.specs.{Mutator.HeapState, declared.deed.Deed.Deed}
use Rattle.mh_deeds.proofs.LogLemmas.{adds-then}
use Rattle.mh_paged.proofs.ShadeLemmas.{one-shaded}
use Rattle.mh_paged.proofs.kept.KeptHeap.tell_shaded.Goals as goal

pub loop-index-preserved : goal.loop-index-preserved
loop-index-preserved c =
    let grey : List ℕ = c.args.self.now.collector.grey in
    let at = subst (λ (g : List ℕ). slice_get g (c.args.before + c.loop-index.index) ≡ Some c.grey_at.result) (ap (λ (heap : HeapState). heap.collector.grey) c.self.view_is) c.grey_at.ensures in
    rw (add-one, one-shaded grey c.args.before c.loop-index.index c.grey_at.result at)
    (adds-then c.args.deeds.now c.loop-index.deeds c.push.new.self (map (λ place. Deed.Shade place) (take c.loop-index.index (drop c.args.before grey))) _ c.loop-index.invariant c.push.ensures)
