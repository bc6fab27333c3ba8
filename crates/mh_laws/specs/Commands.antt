-- What commands of sessions leave as it was.
use Rattle.std.specs.Prelude.{◌≡◌, ℕ, ◌+◌, ◌-◌, ◌<◌, ◌≤◌, true, Some, None, length, set}
use Rattle.mh_model.specs.{declared.command.Command.Command, declared.reply.Refusal.Refusal}
use Rattle.mh_model.specs.declared.reply.Refusal.TheVariants.{HeapFull}
use Rattle.mh_model.specs.{World.{most_fields, own_slot, refusal, never_full, done, says}, Table.{HasSmallBlocks, Made}}
use Rattle.mh_model.specs.Collector.{Collector}
use Rattle.mh_model.specs.Mutator.{HeapState, with_root, with_roots_cleared, new_group, with_born, heap_sight, heap_effect, mutator_step}
use Rattle.mh_model.specs.{Pages.HaveTheirSlots, declared.reply.Reply.Reply}

-- a collector on the same course: only blocks with their pages, root slots and the grey list may differ. It has as many pages, and keeps their slots
-- and blocks within the limits; these allow as many fields as an object made meanwhile may have
pub record IsOnCourse (made : ℕ) (old new : Collector) : Type 0 where
  pub pages : length new.table ≡ length old.table
  pub slots : HaveTheirSlots old.table → HaveTheirSlots new.table
  pub limits : (most : ℕ) → made ≤ most → HasSmallBlocks most old.table → HasSmallBlocks most new.table
  pub phase : new.phase ≡ old.phase
  pub cursor : new.cursor ≡ old.cursor
  pub cycle : new.cycle ≡ old.cycle
  pub is_asked : new.is_asked ≡ old.is_asked
  pub quanta : new.quanta ≡ old.quanta

-- A command of a session leaves phase, cursor, cycle number, asking and quanta as they were. It keeps the number of pages, their slots, and blocks
-- within the limits
abbrev pub CommandKeepsTheCourse : Type 0
CommandKeepsTheCourse = (heap : HeapState) (who : ℕ) (command : Command) → IsOnCourse (most_fields heap.config) heap.collector (mutator_step heap who command).state.collector

-- A refused command leaves the heap as it was, also if the heap is full
abbrev pub RefusalLeavesTheHeap : Type 0
RefusalLeavesTheHeap = (heap : HeapState) (who : ℕ) (command : Command) (refusal : Refusal) → (mutator_step heap who command).reply ≡ Reply.Refused refusal → (mutator_step heap who command).state ≡ heap

-- A new object is answered `heap full` only if its parts aren't made
abbrev pub FullHeapHasNoPlace : Type 0
FullHeapHasNoPlace = (heap : HeapState) (who slot references numbers : ℕ) → (mutator_step heap who (Command.New slot references numbers)).reply ≡ Reply.Refused HeapFull → new_group heap references numbers ≡ None

-- A new object that no other test refuses is answered `heap full` if its parts aren't made
abbrev pub NoPlaceIsAFullHeap : Type 0
NoPlaceIsAFullHeap = (heap : HeapState) (who slot references numbers : ℕ) → refusal (record (heap_sight heap) { is_full = never_full }) who (Command.New slot references numbers) ≡ None → new_group heap references numbers ≡ None
    → (mutator_step heap who (Command.New slot references numbers)).reply ≡ Reply.Refused HeapFull

-- A command that a test refuses answers so and changes nothing, and one that none refuses has its effect. A new object that has a place is born, and
-- a session's end empties its 16 slots in order
pub record CommandsAreAnswered : Type 0 where
  pub refused : (heap : HeapState) (who : ℕ) (command : Command) (refused : Refusal) → refusal (heap_sight heap) who command ≡ Some refused → mutator_step heap who command ≡ says (Reply.Refused refused) heap
  pub taken : (heap : HeapState) (who : ℕ) (command : Command) → refusal (heap_sight heap) who command ≡ None → mutator_step heap who command ≡ heap_effect heap who command
  pub born : (heap : HeapState) (who slot references numbers : ℕ) (made : Made) → refusal (record (heap_sight heap) { is_full = never_full }) who (Command.New slot references numbers) ≡ None → new_group heap references numbers ≡ Some made
      → mutator_step heap who (Command.New slot references numbers) ≡ done (with_born heap (own_slot who slot) made)
  pub ended : (heap : HeapState) (who : ℕ) → refusal (heap_sight heap) who Command.End ≡ None
      → mutator_step heap who Command.End ≡ done (record heap { collector = with_roots_cleared heap.collector (own_slot who 0) 16; ended = set heap.ended who true })
  pub emptied : (collector : Collector) (slot end : ℕ) → slot < end → with_roots_cleared collector slot (end - slot) ≡ with_roots_cleared (with_root collector slot None) (slot + 1) (end - (slot + 1))
