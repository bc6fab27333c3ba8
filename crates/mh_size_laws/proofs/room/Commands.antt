-- Commands that are answered by no full heap, if as many pages were free as the interval may open.
use Rattle.std.proofs.Common.{◌≡◌, inl, inr, ℕ, ◌+◌, ◌≤◌, nat_lt, true, false, if◌then◌else◌, Option, Some, None, option_map, unwrap_or, [], refl, sym, ◌∙◌, subst, arith}
use Rattle.std.proofs.{lemmas.Bool.{cases_Bool, false≢true, ltb-false}, lemmas.Option.none-some}
use Rattle.mh_model.specs.{declared.command.Command.Command, declared.command.Control.Control}
use Rattle.mh_model.specs.{declared.command.Event.Event, declared.config.Config.Config, declared.reply.Refusal.Refusal}
use Rattle.mh_model.specs.{declared.reply.Refusal.TheVariants.HeapFull, declared.reply.Reply.Reply}
use Rattle.mh_model.specs.World.{IsNew, own_slot, most_fields, never_full, refusal, unless_refused}
use Rattle.mh_model.specs.{Classes.{class_sizes, parts}, Pages.{Table, free_pages, HaveTheirSlots}, Table.{Block, Made}}
use Rattle.mh_model.specs.{Collector.Collector, Mutator.{HeapState, with_born, heap_sight, heap_effect, mutator_step}}
use Rattle.mh_model.specs.Machine.{Machine, quantum_run, command_step, control_step, half_step, event_step}
use Rattle.mh_model.specs.{Snapshot.is_heap_full, Openings.{class_parts, asked_parts}}
use Rattle.mh_table_laws.proofs.objects.Parts.{parts_fit, some_parts}
use Rattle.mh_laws.proofs.{commands.CommandAnswers.new-full, rooms.Rooms.{LeavesAlone, alone-same, alone-then}}
use Rattle.mh_laws.proofs.rooms.KeptRoom.{with_root-room, heap_effect-room}
use Rattle.mh_run_laws.proofs.worlds.FullAlone.{new-alone, full-alone}
use Rattle.mh_size_laws.proofs.{openings.MadeParts.{IsOpened, pages_of}, openings.Intervals.{new-allowed, IsSince}}
use Rattle.mh_size_laws.proofs.room.FoundPlaces.{IsFoundWhole, group-found}

-- Replies ----------------------------------------------------------------------------------------

pub full_is : (answer : Reply) → is_heap_full answer ≡ true → answer ≡ Reply.Refused HeapFull
full_is answer full = grind (arith, false≢true)

pub not_full : (answer : Reply) → (answer ≡ Reply.Refused HeapFull → ⊥) → is_heap_full answer ≡ false
not_full answer other = elim (cases_Bool (is_heap_full answer)) [ inl full ↦ absurd (other (full_is answer full)) | inr is ↦ is ]

-- Commands ---------------------------------------------------------------------------------------

module _ (asked : ℕ → ℕ) (start : Table Block) (heap : HeapState) (who : ℕ) where
  -- the pages that the blocks which were asked for fill with those of a command
  abbrev FitsWith : Command → Type 0
  FitsWith c = pages_of (λ k. asked k + class_parts k (asked_parts heap.config (Event.Session who c))) class_sizes ≤ free_pages start

  -- an object that the rules allow has a place for each of its parts
  object-found : (slot references numbers : ℕ) → HaveTheirSlots heap.collector.table → IsOpened class_sizes asked start heap.collector.table → FitsWith (Command.New slot references numbers)
      → nat_lt (most_fields heap.config) (references + numbers) ≡ false → IsFoundWhole heap.collector.table heap.next_birth heap.collector.cycle (parts references numbers)
  object-found slot references numbers slots is fits allowed =
      group-found (parts references numbers) asked start heap.collector.table heap.next_birth heap.collector.cycle (some_parts references numbers)
      (λ i part at. parts_fit.classes (heap.config).rules references numbers i part (ltb-false (most_fields heap.config) (references + numbers) allowed) at) slots is
      (subst (λ b. pages_of (λ k. asked k + class_parts k (if b then [] else parts references numbers)) class_sizes ≤ free_pages start) allowed fits)

  never-full : (c : Command) → HaveTheirSlots heap.collector.table → IsOpened class_sizes asked start heap.collector.table → FitsWith c → IsNew c → (mutator_step heap who c).reply ≡ Reply.Refused HeapFull → ⊥
  never-full (Command.New slot references numbers) slots is fits new full =
      let found = object-found slot references numbers slots is fits (new-allowed (record (heap_sight heap) { is_full = never_full }) who slot references numbers (full-alone heap who slot references numbers full)) in
      none-some found.made (sym (new-full heap who slot references numbers full) ∙ found.is)
  never-full _ slots is fits new full = absurd new

  -- No command is answered by a full heap
  pub reply-found : (c : Command) → HaveTheirSlots heap.collector.table → IsOpened class_sizes asked start heap.collector.table → FitsWith c → is_heap_full (mutator_step heap who c).reply ≡ false
  reply-found c slots is fits = not_full (mutator_step heap who c).reply (λ full. never-full c slots is fits (new-alone heap who c full) full)

  born-flagged : (slot : ℕ) (made : Made) → LeavesAlone heap.collector.table made.table → LeavesAlone heap.collector.table (with_born heap slot made).collector.table
  born-flagged slot made leaves =
      let born : Collector = record (heap.collector) { table = made.table } in
      alone-then heap.collector.table made.table (with_born heap slot made).collector.table leaves (with_root-room born slot (Some made.place)).flagged

  effect-flagged : (c : Command) → HaveTheirSlots heap.collector.table → IsOpened class_sizes asked start heap.collector.table → FitsWith c → refusal (heap_sight heap) who c ≡ None → LeavesAlone heap.collector.table (heap_effect heap who c).state.collector.table
  unfolding heap_effect
  effect-flagged (Command.New slot references numbers) slots is fits e =
      let found = object-found slot references numbers slots is fits (new-allowed (heap_sight heap) who slot references numbers e) in
      subst (λ (group : Option Made). LeavesAlone heap.collector.table (unwrap_or (option_map (with_born heap (own_slot who slot)) group) heap).collector.table) (sym found.is) (born-flagged (own_slot who slot) found.made found.flagged)
  effect-flagged c slots is fits e = (heap_effect-room heap who c refl).flagged

  -- and none puts anything into a flagged page
  pub flagged-found : (c : Command) → HaveTheirSlots heap.collector.table → IsOpened class_sizes asked start heap.collector.table → FitsWith c → LeavesAlone heap.collector.table (mutator_step heap who c).state.collector.table
  unfolding mutator_step
  flagged-found c slots is fits = go (refusal (heap_sight heap) who c) refl
    where
      go : (refused : Option Refusal) → refusal (heap_sight heap) who c ≡ refused → LeavesAlone heap.collector.table (unless_refused refused heap (heap_effect heap who c)).state.collector.table
      go None e = effect-flagged c slots is fits e
      go (Some refused) e = alone-same heap.collector.table

-- Events -----------------------------------------------------------------------------------------

-- no control is answered by a full heap
pub control-reply : (machine : Machine) (control : Control) → is_heap_full (control_step machine control).reply ≡ false
unfolding control_step quantum_run
control-reply machine asked = grind arith

-- an event that is answered by no full heap, and before whose quantum nothing goes into a flagged page
pub record IsServed (machine : Machine) (event : Event) : Type 0 where
  pub reply : is_heap_full (event_step machine event).reply ≡ false
  pub flagged : LeavesAlone machine.heap.collector.table (half_step machine event).heap.collector.table

-- So it is, if the parts of the interval with this event fill no more pages than were free
pub event-served : (config : Config) (asked : ℕ → ℕ) (start : Table Block) (machine : Machine) (event : Event) → IsSince config asked start machine
    → pages_of (λ k. asked k + class_parts k (asked_parts config event)) class_sizes ≤ free_pages start → IsServed machine event
unfolding event_step command_step
event-served config asked start machine (Event.Session who c) since fits =
    let room = subst (λ f. pages_of (λ k. asked k + class_parts k (asked_parts f (Event.Session who c))) class_sizes ≤ free_pages start) (sym since.config_is) fits in
    record { reply = reply-found asked start machine.heap who c since.slots since.opened room; flagged = flagged-found asked start machine.heap who c since.slots since.opened room }
event-served config asked start machine (Event.Control control) since fits = record { reply = control-reply machine control; flagged = alone-same machine.heap.collector.table }
