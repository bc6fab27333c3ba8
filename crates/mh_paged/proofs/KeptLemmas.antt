-- A command leaves the heap kept and within its bounds, by the laws of commands.
use Rattle.std.proofs.Common.{◌≡◌, ℕ, ◌+◌, ◌<◌, Bool, true, false, List, Some, None, replicate, sym, ap, subst}
use Rattle.std.proofs.lemmas.Option.{none-some}
use Rattle.mh_model.specs.{declared.command.Command.Command, declared.config.Config.Config, declared.reply.Reply.Reply}
use Rattle.mh_model.specs.{declared.shape.Shape.Shape, World.Answer, Table.Made, Collector.{Collector, quantum}}
use Rattle.mh_model.specs.{Mutator.{HeapState, new_group, with_root}, CycleBounds.IsInBounds}
use Rattle.mh_model.specs.Invariant.{HeapKeeps, IsKeeping, IsSteady, IsObjectAt, IsFindable, HasField}
use Rattle.mh_laws.specs.Barriers.{RootsWrittenKeepTheSnapshot, ObjectsMadeKeepTheSnapshot}
use Rattle.mh_laws.specs.Snapshots.{CollectorsStaySteady, CommandsKeepTheSnapshot, HeapsStayKept}
use Rattle.mh_laws.specs.{Bounds.CollectorsStayInBounds, Fields.FieldsAreFound}
use Rattle.mh_cycle.specs.State.{CycleState, state_with_collector, first_state}
use Rattle.mh_paged.specs.{Kept.{KeepsEachWorld, Steps}, Auxiliary.{heap_of, IsHeap}}

-- a field of an object of a kept heap is found, and lies where the object has it
pub record IsFoundField (collector : Collector) (place : ℕ) (shape : Shape) (field : ℕ) : Type 0 where
  pub findable : IsFindable collector.table place field
  pub has : HasField collector place shape field

pub found-field : CollectorsStaySteady → FieldsAreFound → (cycle : CycleState) (birth : ℕ) (ended : List Bool) → IsHeap cycle birth ended → (place : ℕ) (shape : Shape) → IsObjectAt cycle.collector place shape → (field : ℕ) → field < shape.references + shape.numbers → IsFoundField cycle.collector place shape field
found-field steady found cycle birth ended is place shape object field within =
    let keeps = steady.of_heaps (heap_of cycle birth ended) is.keeping in
    record { findable = found.findable cycle.collector keeps place shape object field within; has = found.lies cycle.collector keeps place shape object field within }

pub kept-after : HeapsStayKept → CollectorsStayInBounds → (old new : CycleState) (birth next : ℕ) (ended left : List Bool) → IsHeap old birth ended → new.config ≡ old.config → (who : ℕ) (command : Command) (reply : Reply) → Steps (heap_of old birth ended) who command reply (heap_of new next left)
    → IsHeap new next left
kept-after kept bounded old new birth next ended left is same who command reply steps =
    let state = ap (λ (a : Answer HeapState). a.state) steps in
    record {
      keeping = subst IsKeeping state (kept.commands (heap_of old birth ended) is.keeping who command);
      bounds = subst (λ c. IsInBounds c new.collector) (sym same) (subst (λ (h : HeapState). IsInBounds old.config h.collector) state (bounded.commands old.config (heap_of old birth ended) who command is.bounds));
    }

-- a root is emptied
pub steady-cleared : RootsWrittenKeepTheSnapshot → (c new : Collector) (slot : ℕ) → new ≡ with_root c slot None → IsSteady c → IsSteady new
steady-cleared law c new slot is steady = subst IsSteady (sym is) (steady.0, steady.1, law steady.0 steady.1 c slot None (λ place e. absurd (none-some place e)) steady.2)

-- a cycle is asked for
pub kept-asked : HeapsStayKept → CollectorsStayInBounds → (old new : CycleState) (birth : ℕ) (ended : List Bool) → IsHeap old birth ended → new ≡ state_with_collector old (record (old.collector) { is_asked = true }) → IsHeap new birth ended
kept-asked kept bounded old new birth ended is asked = rw asked (record { keeping = kept.asking (heap_of old birth ended) is.keeping; bounds = bounded.asking old.config old.collector is.bounds })

-- a quantum is run
pub kept-quantum : HeapsStayKept → CollectorsStayInBounds → (old new : CycleState) (birth : ℕ) (ended : List Bool) → IsHeap old birth ended → new ≡ state_with_collector old (quantum old.config old.collector).collector → IsHeap new birth ended
kept-quantum kept bounded old new birth ended is after = rw after (record { keeping = kept.quanta (heap_of old birth ended) is.keeping; bounds = bounded.quanta old.config old.collector is.bounds })

-- the first heap
pub kept-first : HeapsStayKept → CollectorsStayInBounds → (config : Config) (cycle : CycleState) → cycle ≡ first_state config → IsHeap cycle 0 (replicate 8 false)
kept-first kept bounded config cycle first = rw first (record { keeping = kept.first config; bounds = bounded.first config })

-- the parts of a new object are made
pub steady-made : ObjectsMadeKeepTheSnapshot → (heap : HeapState) → IsKeeping heap → (references numbers : ℕ) (made : Made) (new : Collector) → new_group heap references numbers ≡ Some made → new ≡ record (heap.collector) { table = made.table } → IsSteady new
steady-made law heap keeping references numbers made new group is =
    subst IsSteady (sym is) (keeping.0, heap.next_birth + 1, (law keeping.0 heap.next_birth heap.collector references numbers made group keeping.1).0)

-- a command keeps each snapshot
pub keeps-each : CommandsKeepTheSnapshot → (old new : HeapState) (who : ℕ) (command : Command) (reply : Reply) → Steps old who command reply new → KeepsEachWorld old new
keeps-each law old new who command reply steps snapshot keeps = subst (HeapKeeps snapshot) (ap (λ (a : Answer HeapState). a.state) steps) (law snapshot old keeps who command)
