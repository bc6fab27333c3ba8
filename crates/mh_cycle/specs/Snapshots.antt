-- What the calls of a cycle keep for each world taken as its snapshot.
use Rattle.std.specs.Prelude.{◌≡◌, ℕ, true, false, None, Some}
use Rattle.mh_model.specs.{declared.cycle.Phase.TheVariants.Idle, World.World, Pages.block_at, Table.Block}
use Rattle.mh_model.specs.{Collector.{Collector, is_idle, is_start_due}, Mutator.{HeapState, in_roots_or_mark}}
use Rattle.mh_model.specs.{View.heap_view, Snapshot.IsKept, Invariant.{IsSound, KeepsSnapshot, Continues}}
use Rattle.mh_cycle.specs.State.{CycleState}

-- a snapshot that the running cycle keeps is kept on, and what it keeps is all that is left when the cycle ends
abbrev pub ContinuesEach : Collector → Collector → Type 0
ContinuesEach old new = (snapshot : World) (next_birth : ℕ) → is_idle old.phase ≡ false → KeepsSnapshot snapshot next_birth old → Continues snapshot next_birth new

-- a cycle that starts keeps what is reachable in the view of any heap that has this collector
abbrev pub StartsFromTheView : CycleState → Collector → Type 0
StartsFromTheView old new = (heap : HeapState) → heap.config ≡ old.config → heap.collector ≡ old.collector → old.collector.phase ≡ Idle → is_start_due old.config old.collector ≡ true → IsSound heap.next_birth old.collector
    → Continues (heap_view heap) heap.next_birth new

-- each snapshot that was kept still is. So the barrier of a root slot keeps them
abbrev pub KeepsEach : Collector → Collector → Type 0
KeepsEach old new = (snapshot : World) (next_birth : ℕ) → KeepsSnapshot snapshot next_birth old → KeepsSnapshot snapshot next_birth new

-- while blocks are marked, the block at this place is of what a snapshot keeps
abbrev pub HasKeptBlock : World → ℕ → Collector → ℕ → Type 0
HasKeptBlock snapshot next_birth collector place = in_roots_or_mark collector.phase ≡ true → (block : Block) × (block_at collector.table place ≡ Some block) × (block.forward ≡ None) × IsKept snapshot next_birth block.birth

-- each snapshot that was kept still is, if the block at this place is of what it keeps. So the barrier of a reference keeps them
abbrev pub KeepsEachBehind : ℕ → Collector → Collector → Type 0
KeepsEachBehind place old new = (snapshot : World) (next_birth : ℕ) → HasKeptBlock snapshot next_birth old place → KeepsSnapshot snapshot next_birth old → KeepsSnapshot snapshot next_birth new
