-- The laws of what a heap shows while it is collected: it changes only if the sweep begins, and then what is reachable stays.
use Rattle.mh_model.specs.{World.{World, IsClosed}, Paths.Agrees, Collector.quantum, Mutator.HeapState, View.heap_view}
use Rattle.mh_model.specs.Invariant.{HeapKeeps, IsKeeping}

-- Each quantum, in any phase, keeps a view that agrees with a world
abbrev pub QuantaKeepTheView : Type 0
QuantaKeepTheView = (snapshot world : World) (heap : HeapState) → HeapKeeps snapshot heap → Agrees (heap_view heap) world → Agrees (heap_view (record heap { collector = (quantum heap.config heap.collector).collector })) world

-- What a slot or a reference names in the view of a kept heap is there
abbrev pub KeptViewsAreClosed : Type 0
KeptViewsAreClosed = (heap : HeapState) → IsKeeping heap → IsClosed (heap_view heap)

-- The view of a kept heap agrees with itself: each object that a path of it reaches is there
abbrev pub KeptViewsAgreeWithThemselves : Type 0
KeptViewsAgreeWithThemselves = (heap : HeapState) → IsKeeping heap → Agrees (heap_view heap) (heap_view heap)
