-- The world that a heap which never collects shows.
use Rattle.mh_model.specs.World.{World}
use Rattle.mh_heap.specs.{PlainWorld.plain_world, declared.plain.PlainHeap.PlainHeap}

-- the world that a heap without a collector shows
abbrev pub world_of : PlainHeap → World
world_of heap = plain_world heap.config heap.objects.items heap.slots heap.ended
