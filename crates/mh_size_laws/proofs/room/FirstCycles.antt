-- Runs before and after the first cycle starts. Until then no page is flagged.
use Rattle.std.proofs.Common.{◌≡◌, inl, inr, ℕ, ◌+◌, ◌-◌, ◌≤◌, Bool, true, false, if◌then◌else◌, Option, Some, None, option_map, unwrap_or, List, [], ◌∷◌, refl, sym, ap, ◌∙◌, arith}
use Rattle.std.proofs.{lemmas.Bool.{cases_Bool, true≢false, false≢true, ltb-false}, lemmas.Option.none-some}
use Rattle.std.specs.List.{AllByRecursion}
use Rattle.mh_model.specs.{declared.command.Command.Command, declared.command.Event.Event}
use Rattle.mh_model.specs.{declared.config.Config.Config, declared.reply.Refusal.Refusal}
use Rattle.mh_model.specs.{World.{own_slot, refusal, unless_refused}, Pages.{Page, Table, page_at, HaveTheirSlots}}
use Rattle.mh_model.specs.{Table.{Block, Made}, Collector.{Collector, is_idle, quantum}}
use Rattle.mh_model.specs.Mutator.{HeapState, new_group, with_born, heap_sight, heap_effect, mutator_step}
use Rattle.mh_model.specs.Machine.{Machine, first_machine, with_collector, quantum_run, command_step, half_step, event_step, machine_after, machine_replies}
use Rattle.mh_model.specs.{Snapshot.{has_quantum, is_heap_full}, Openings.{LeavesFlagged, free_of}}
use Rattle.mh_model.specs.Intervals.{moments, intervals, has_ended, cycle_ends, LeaveFlagged}
use Rattle.mh_table_laws.proofs.{Lists.none_at, placing.Places.shaped-slots}
use Rattle.mh_laws.proofs.bounds.CycleBounds.{steps-count, quantum-number}
use Rattle.mh_laws.proofs.bounds.CyclesInTime.{StaysInBounds, run-stays}
use Rattle.mh_laws.proofs.commands.LeftUnchanged.{mutator_step-course, quantum-keeps, machine_after-pages}
use Rattle.mh_laws.proofs.{costs.QuantumStarts.{begins, quantum-rests}, objects.NewbornBlocks.made_group-born}
use Rattle.mh_laws.proofs.{rooms.KeptRoom.{with_root-room, heap_effect-room}, rooms.QuietEvents.quiet-event}
use Rattle.mh_laws.proofs.{rooms.Rooms.HasSameRoom, runs.EveryMoment.event_step-keeps}
use Rattle.mh_size_laws.proofs.{openings.Intervals.{asked_of, IsSince}, openings.MadeParts.opened-none}
use Rattle.mh_size_laws.proofs.room.IntervalSteps.{half-on_way, end-here, ends-later, next-stays, ends-interval}
use Rattle.mh_size_laws.proofs.room.Runs.{ended-is, opens_of, IsSet, set-anew, ready-anew, never-full}
use Rattle.mh_size_laws.specs.Room.{has_cycle, until_cycle, first_start, later_intervals, most_in_a_row, RoomInARowSuffices}
use Rattle.mh_size_laws.proofs.room.Runs as run

-- Flags ------------------------------------------------------------------------------------------

-- no page is flagged
abbrev AreUnflagged : Table Block → Type 0
AreUnflagged table = (number : ℕ) (page : Page Block) → page_at table number ≡ Some page → page.is_flagged ≡ false

same-unflagged : (old new : Table Block) → HasSameRoom old new → AreUnflagged old → AreUnflagged new
same-unflagged old new same none number page at = elim (cases_Bool page.is_flagged) [
  | inl flag ↦ let was = same.flagged.only number page at flag in absurd (true≢false (sym was.flag ∙ none number was.before was.in_use))
  | inr unflagged ↦ unflagged
]

-- a new object flags none
born-unflagged : (heap : HeapState) (slot references numbers : ℕ) → HaveTheirSlots heap.collector.table → AreUnflagged heap.collector.table
    → (group : Option Made) → new_group heap references numbers ≡ group → AreUnflagged (unwrap_or (option_map (with_born heap slot) group) heap).collector.table
born-unflagged heap slot references numbers slots none None is = none
born-unflagged heap slot references numbers slots none (Some made) is =
    let born = made_group-born heap.collector.table heap.next_birth heap.collector.cycle (record { references = references; numbers = numbers }) (shaped-slots heap.collector.table slots) made is in
    let filled : Collector = record (heap.collector) { table = made.table } in
    same-unflagged made.table (with_born heap slot made).collector.table (with_root-room filled slot (Some made.place)) (λ number. born.flags number (none number))

effect-unflagged : (heap : HeapState) (who : ℕ) (c : Command) → HaveTheirSlots heap.collector.table → AreUnflagged heap.collector.table → AreUnflagged (heap_effect heap who c).state.collector.table
unfolding heap_effect
effect-unflagged heap who (Command.New slot references numbers) slots none = born-unflagged heap (own_slot who slot) references numbers slots none (new_group heap references numbers) refl
effect-unflagged heap who c slots none = same-unflagged heap.collector.table (heap_effect heap who c).state.collector.table (heap_effect-room heap who c refl) none

command-unflagged : (heap : HeapState) (who : ℕ) (c : Command) → HaveTheirSlots heap.collector.table → AreUnflagged heap.collector.table → AreUnflagged (mutator_step heap who c).state.collector.table
unfolding mutator_step
command-unflagged heap who c slots none = go (refusal (heap_sight heap) who c)
  where
    go : (refused : Option Refusal) → AreUnflagged (unless_refused refused heap (heap_effect heap who c)).state.collector.table
    go refused = search (arith, effect-unflagged)

-- Before the first cycle -------------------------------------------------------------------------

-- a collector that has run no cycle: none runs, and no page is flagged
record IsFresh (c : Collector) : Type 0 where
  pub idle : is_idle c.phase ≡ true
  pub unflagged : AreUnflagged c.table

record IsFreshAtFirst (machine : Machine) : Type 0 where
  pub slots : HaveTheirSlots machine.heap.collector.table
  pub fresh : machine.heap.collector.cycle ≡ 0 → IsFresh machine.heap.collector

by_command : (machine : Machine) (who : ℕ) (command : Command) → IsFreshAtFirst machine → IsFreshAtFirst (command_step machine who command).state
unfolding command_step
by_command machine who command is =
    let course = mutator_step-course machine.heap who command in
    record {
      slots = course.slots is.slots;
      fresh = λ none. let fresh = is.fresh (sym course.cycle ∙ none) in record { idle = ap is_idle course.phase ∙ fresh.idle; unflagged = command-unflagged machine.heap who command is.slots fresh.unflagged };
    }

-- a quantum that starts no first cycle leaves all as it was
quantum-none : (config : Config) (old : Collector) → (old.cycle ≡ 0 → is_idle old.phase ≡ true) → (quantum config old).collector.cycle ≡ 0 → (quantum config old).collector ≡ old
unfolding quantum
quantum-none config old idles none = grind (arith, begins, steps-count, true≢false, quantum-number, quantum-rests)

quantum-fresh : (config : Config) (old : Collector) → (old.cycle ≡ 0 → IsFresh old) → (quantum config old).collector.cycle ≡ 0 → IsFresh (quantum config old).collector
quantum-fresh config old fresh none = search (arith, quantum-none)

by_quantum : (machine : Machine) → IsFreshAtFirst machine → IsFreshAtFirst (quantum_run machine).state
unfolding quantum_run
by_quantum machine is = record {
  slots = (quantum-keeps 0 machine.heap.config machine.heap.collector).slots is.slots;
  fresh = quantum-fresh machine.heap.config machine.heap.collector is.fresh;
}

by_asking : (machine : Machine) → IsFreshAtFirst machine → IsFreshAtFirst (with_collector machine (record (machine.heap.collector) { is_asked = true }))
by_asking machine is = record { slots = is.slots; fresh = λ none. let fresh = is.fresh none in record { idle = fresh.idle; unflagged = fresh.unflagged } }

next-fresh : (machine : Machine) (event : Event) → IsFreshAtFirst machine → IsFreshAtFirst (event_step machine event).state
next-fresh machine event is = event_step-keeps IsFreshAtFirst by_command by_quantum by_asking machine event is

first-fresh : (config : Config) → IsFreshAtFirst (first_machine config)
unfolding machine_after
first-fresh config = record { slots = (machine_after-pages config []).slots; fresh = λ none. record { idle = refl; unflagged = λ number page at. absurd (none-some page (sym (none_at config.pages number) ∙ at)) } }

-- so nothing goes into a flagged page
fresh-leaves : (old new : Table Block) → AreUnflagged old → LeavesFlagged old new
fresh-leaves old new none = grind (arith, false≢true, true≢false)

-- Until the first cycle starts -------------------------------------------------------------------

-- a machine that has started no cycle
record IsEarly (config : Config) (machine : Machine) : Type 0 where
  pub fresh : IsFreshAtFirst machine
  pub stays : StaysInBounds config machine
  pub none : machine.heap.collector.cycle ≡ 0

early-since : (config : Config) (machine : Machine) → IsEarly config machine → IsSince config (asked_of config []) machine.heap.collector.table machine
early-since config machine early = grind (arith, opened-none, asked_of)

-- the first cycle starts in a quantum
first-quantum : (machine : Machine) (event : Event) → machine.heap.collector.cycle ≡ 0 → has_cycle (event_step machine event).state ≡ true → has_quantum machine event ≡ true
first-quantum machine event none starts = grind (arith, cases_Bool, true≢false, quiet-event, half-on_way)

module _ (config : Config) (quanta room less : ℕ) where
  abbrev HasLess : Machine → Type 0
  HasLess machine = less ≤ free_of machine

  -- as it has started, there is room
  first-set : (machine : Machine) (event : Event) (cut : List (List Event)) → 1 ≤ quanta → room ≤ config.trigger + 1 → IsEarly config machine → has_quantum machine event ≡ true → most_in_a_row quanta (opens_of config cut) ≤ room → most_in_a_row (quanta - 1) (opens_of config cut) ≤ less
      → HasLess (event_step machine event).state → (has_ended machine.heap.collector (event_step machine event).state.heap.collector ≡ true → run.LeavesRoom config quanta room (event_step machine event).state)
      → (set : IsSet config quanta room (event_step machine event).state cut) × run.IsReady config quanta room set.count set.recent [] (event_step machine event).state.heap.collector.table (event_step machine event).state cut
  first-set machine event cut some trigger early runs later fewer starts ended =
      let half : Machine = half_step machine event in
      let next : Machine = (event_step machine event).state in
      let ends = ends-interval config [] machine.heap.collector.table machine event (early-since config machine early) early.stays runs in
      let way = half-on_way machine event in
      let set : IsSet config quanta room next cut = elim (ends.after.case) [
        | inl (low, idle, none) ↦ set-anew config quanta room next cut (omega (arith, trigger, low, ends.after.free, later))
        | inr other ↦ elim other [
          | inl (idle, cycle) ↦ set-anew config quanta room next cut (omega (arith, later, ended (ended-is machine.heap.collector half.heap.collector next.heap.collector way.phase way.cycle idle cycle)))
          | inr (runs, more) ↦ record { count = quanta - 1; recent = []; few = omega (arith, more, some); enough = omega (arith, fewer, starts) }
        ]
      ] in
      (set, ready-anew config quanta room next cut ends.since (next-stays config machine event early.stays) set later)

  -- Nothing is full from a machine on that has started no cycle
  from-early : (events : List Event) (machine : Machine) → 1 ≤ quanta → room ≤ config.trigger + 1 → IsEarly config machine → AllByRecursion (λ answer. is_heap_full answer ≡ false) (machine_replies machine (until_cycle machine events))
      → most_in_a_row quanta (opens_of config (later_intervals machine events)) ≤ room → most_in_a_row (quanta - 1) (opens_of config (later_intervals machine events)) ≤ less → AllByRecursion HasLess (first_start machine events)
      → AllByRecursion (run.HasHadFewer config quanta room) (moments machine events) → AllByRecursion (run.LeavesRoom config quanta room) (cycle_ends machine events)
      → AllByRecursion (λ answer. is_heap_full answer ≡ false) (machine_replies machine events) × LeaveFlagged machine events
  unfolding machine_replies
  from-early [] machine some trigger early before later fewer starts had left = (tt, tt)
  from-early (event ∷ events) machine some trigger early before later fewer starts had left = go (has_cycle next) refl before later fewer starts (from-early events next some trigger)
    where
      next : Machine
      next = (event_step machine event).state

      flagged : LeavesFlagged machine.heap.collector.table (half_step machine event).heap.collector.table
      flagged = fresh-leaves machine.heap.collector.table (half_step machine event).heap.collector.table (early.fresh.fresh early.none).unflagged

      later_ends : AllByRecursion (run.LeavesRoom config quanta room) (cycle_ends next events)
      later_ends = ends-later (run.LeavesRoom config quanta room) next (cycle_ends next events) (has_ended machine.heap.collector next.heap.collector) left

      go : (cut : Bool) → has_cycle next ≡ cut → AllByRecursion (λ answer. is_heap_full answer ≡ false) (machine_replies machine (if cut then event ∷ [] else event ∷ until_cycle next events))
          → most_in_a_row quanta (opens_of config (if cut then intervals [] next events else later_intervals next events)) ≤ room
          → most_in_a_row (quanta - 1) (opens_of config (if cut then intervals [] next events else later_intervals next events)) ≤ less
          → AllByRecursion HasLess (if cut then next ∷ [] else first_start next events)
          → (IsEarly config next → AllByRecursion (λ answer. is_heap_full answer ≡ false) (machine_replies next (until_cycle next events))
          → most_in_a_row quanta (opens_of config (later_intervals next events)) ≤ room → most_in_a_row (quanta - 1) (opens_of config (later_intervals next events)) ≤ less → AllByRecursion HasLess (first_start next events)
          → AllByRecursion (run.HasHadFewer config quanta room) (moments next events) → AllByRecursion (run.LeavesRoom config quanta room) (cycle_ends next events)
          → AllByRecursion (λ answer. is_heap_full answer ≡ false) (machine_replies next events) × LeaveFlagged next events)
          → AllByRecursion (λ answer. is_heap_full answer ≡ false) (machine_replies machine (event ∷ events)) × LeaveFlagged machine (event ∷ events)
      go true is before' later' fewer' starts' goes =
          let runs = first-quantum machine event early.none is in
          let (set, on) = first-set machine event (intervals [] next events) some trigger early runs later' fewer' starts'.0 (λ ended. end-here (run.LeavesRoom config quanta room) next (cycle_ends next events) (has_ended machine.heap.collector next.heap.collector) ended left) in
          let rest = never-full config quanta room events set.count set.recent [] next.heap.collector.table next some trigger on had.1 later_ends in
          ((before'.0, rest.0), (flagged, rest.1))
      go false is before' later' fewer' starts' goes =
          let on : IsEarly config next = record { fresh = next-fresh machine event early.fresh; stays = next-stays config machine event early.stays; none = omega (arith, ltb-false 0 next.heap.collector.cycle is) } in
          grind (arith, later_ends, flagged)

-- Room from the first cycle on suffices
pub room-suffices : RoomInARowSuffices
unfolding machine_after
room-suffices config events quanta some fewer has =
    let first : Machine = first_machine config in
    let cut : List (List Event) = later_intervals first events in
    let early : IsEarly config first = record { fresh = first-fresh config; stays = run-stays config []; none = refl } in
    let all = from-early config quanta (most_in_a_row quanta (opens_of config cut)) (most_in_a_row (quanta - 1) (opens_of config cut)) events first some has.trigger early has.before (omega arith) (omega arith) has.start fewer has.left in
    record { replies = all.0; flagged = all.1 }
