-- The induction over a run that has room for its intervals in a row: as an interval begins, the pages that are free and those that its last intervals opened
-- are as many as any intervals in a row open. These are the intervals since the last quantum that found no cycle, or ended one.
use Rattle.std.proofs.Common.{◌≡◌, ◌⊎◌, inl, inr, ℕ, suc, ◌+◌, ◌<◌, ◌≤◌, Bool, true, false, if◌then◌else◌, List, [], ◌∷◌, ◌++◌, map, length, refl, sym, ◌∙◌, subst, arith}
use Rattle.std.proofs.lemmas.Bool.{cases_Bool, lt-ltb}
use Rattle.std.specs.List.{AllByRecursion, sum}
use Rattle.mh_model.specs.{declared.command.Event.Event, declared.config.Config.Config, Classes.class_sizes}
use Rattle.mh_model.specs.{Pages.{Table, free_pages}, Table.Block, Collector.{Collector, is_idle}}
use Rattle.mh_model.specs.Machine.{Machine, half_step, event_step, machine_replies}
use Rattle.mh_model.specs.Snapshot.{has_quantum, is_heap_full}
use Rattle.mh_model.specs.Openings.{class_parts, asked_parts, opens_at_most, free_of}
use Rattle.mh_model.specs.Intervals.{moments, intervals, has_ended, cycle_ends, LeaveFlagged}
use Rattle.mh_laws.proofs.{bounds.CyclesInTime.StaysInBounds, rooms.QuietEvents.quiet-event, rooms.Quanta.IsAfter}
use Rattle.mh_size_laws.proofs.{openings.MadeParts.pages_of, openings.Intervals.{asked_of, IsSince}}
use Rattle.mh_size_laws.proofs.room.Commands.{event-served}
use Rattle.mh_size_laws.proofs.room.IntervalSteps.{IsOnWay, half-on_way, end-here, ends-later, opens-event, opens-more, next-stays, since-quiet, ends-interval}
use Rattle.mh_size_laws.proofs.room.Rows.{row-first, row-after, sum-more, length-more, row-more}
use Rattle.mh_size_laws.specs.Room.{most_in_a_row}

-- Ends of cycles ---------------------------------------------------------------------------------

pub ended-is : (old between new : Collector) → between.phase ≡ old.phase → between.cycle ≡ old.cycle → is_idle new.phase ≡ true → ((is_idle between.phase ≡ false) ⊎ (between.cycle < new.cycle)) → has_ended old new ≡ true
ended-is old between new phase cycle idle is = grind (arith, lt-ltb)

-- Intervals --------------------------------------------------------------------------------------

module _ (config : Config) where
  -- how many pages each of these intervals opens at most
  abbrev pub opens_of : List (List Event) → List ℕ
  opens_of cut = map (opens_at_most config) cut

  -- the first of these intervals opens as much as what came of it
  pub record IsBegun (before : List Event) (cut : List (List Event)) : Type 0 where
    pub first : List Event
    pub later : List (List Event)
    pub is : cut ≡ first ∷ later
    pub opens : opens_at_most config before ≤ opens_at_most config first

  begun : (events before : List Event) (machine : Machine) → IsBegun before (intervals before machine events)
  begun [] before machine = record { first = before; later = []; is = refl; opens = omega arith }
  begun (event ∷ events) before machine = go (has_quantum machine event) (begun events (before ++ event ∷ []) (event_step machine event).state)
    where
      next : Machine
      next = (event_step machine event).state

      go : (cut : Bool) → IsBegun (before ++ event ∷ []) (intervals (before ++ event ∷ []) next events) → IsBegun before (if cut then (before ++ event ∷ []) ∷ intervals [] next events else intervals (before ++ event ∷ []) next events)
      go true rest = record { first = before ++ event ∷ []; later = intervals [] next events; is = refl; opens = opens-more config before event }
      go false rest = record { first = rest.first; later = rest.later; is = rest.is; opens = omega (arith, rest.opens, opens-more config before event) }

  -- so it does with the next event
  begun-with : (event : Event) (events before : List Event) (machine : Machine) → IsBegun (before ++ event ∷ []) (intervals before machine (event ∷ events))
  begun-with event events before machine = go (has_quantum machine event)
    where
      next : Machine
      next = (event_step machine event).state

      go : (cut : Bool) → IsBegun (before ++ event ∷ []) (if cut then (before ++ event ∷ []) ∷ intervals [] next events else intervals (before ++ event ∷ []) next events)
      go true = record { first = before ++ event ∷ []; later = intervals [] next events; is = refl; opens = omega arith }
      go false = begun events (before ++ event ∷ []) next

-- Runs -------------------------------------------------------------------------------------------

module _ (config : Config) (quanta room : ℕ) where
  abbrev pub HasHadFewer : Machine → Type 0
  HasHadFewer machine = is_idle machine.heap.collector.phase ≡ false → machine.heap.collector.quanta < quanta

  abbrev pub LeavesRoom : Machine → Type 0
  LeavesRoom machine = room ≤ free_of machine

  -- A machine within an interval, with what its last intervals opened, and the intervals from this one on. As this began, so many pages were free that with
  -- those of its last intervals they are as many as `count` intervals in a row open. So many quanta and intervals are left to the cycle
  pub record IsReady (count : ℕ) (recent : List ℕ) (before : List Event) (start : Table Block) (machine : Machine) (cut : List (List Event)) : Type 0 where
    pub since : IsSince config (asked_of config before) start machine
    pub stays : StaysInBounds config machine
    pub few : length recent + quanta ≤ machine.heap.collector.quanta + count
    pub enough : most_in_a_row count (recent ++ opens_of config cut) ≤ free_pages start + sum recent
    pub later : most_in_a_row quanta (opens_of config cut) ≤ room

  few-quanta : (machine : Machine) → StaysInBounds config machine → 1 ≤ quanta → HasHadFewer machine → suc machine.heap.collector.quanta ≤ quanta
  few-quanta machine stays some fewer = grind (arith, cases_Bool)

  -- as the interval began, as many pages were free as it opens
  start-room : (count : ℕ) (recent : List ℕ) (before : List Event) (start : Table Block) (machine : Machine) (cut : List (List Event)) → IsReady count recent before start machine cut → 1 ≤ quanta → HasHadFewer machine
      → (first : List Event) (later : List (List Event)) → cut ≡ first ∷ later → opens_at_most config first ≤ free_pages start
  start-room count recent before start machine cut ready some fewer first later is =
      let row = row-first count recent (opens_at_most config first) (opens_of config later) (omega (arith, ready.few, few-quanta machine ready.stays some fewer)) in
      let enough : most_in_a_row count (recent ++ opens_of config (first ∷ later)) ≤ free_pages start + sum recent = subst (λ c. most_in_a_row count (recent ++ opens_of config c) ≤ free_pages start + sum recent) is ready.enough in
      omega (arith, row, enough)

  -- an event that has no quantum run goes on with the interval
  ready-quiet : (count : ℕ) (recent : List ℕ) (before : List Event) (start : Table Block) (machine : Machine) (event : Event) (cut : List (List Event)) → IsReady count recent before start machine cut → has_quantum machine event ≡ false
      → IsReady count recent (before ++ event ∷ []) start (event_step machine event).state cut
  ready-quiet count recent before start machine event cut ready quiet = record {
    since = since-quiet config before start machine event ready.since quiet;
    stays = next-stays config machine event ready.stays;
    few = omega (arith, ready.few, (quiet-event machine event quiet).quanta ∙ (half-on_way machine event).quanta);
    enough = ready.enough;
    later = ready.later;
  }

  -- what holds as an interval begins
  pub record IsSet (machine : Machine) (cut : List (List Event)) : Type 0 where
    pub count : ℕ
    pub recent : List ℕ
    pub few : length recent + quanta ≤ machine.heap.collector.quanta + count
    pub enough : most_in_a_row count (recent ++ opens_of config cut) ≤ free_of machine + sum recent

  -- nothing is carried on if no cycle runs and there is room
  pub set-anew : (machine : Machine) (cut : List (List Event)) → most_in_a_row quanta (opens_of config cut) ≤ free_of machine → IsSet machine cut
  set-anew machine cut room = record { count = quanta; recent = []; few = omega arith; enough = omega (arith, room) }

  set-after : (count : ℕ) (recent : List ℕ) (start : Table Block) (machine half next : Machine) (opened : ℕ) (cut : List (List Event)) → room ≤ config.trigger + 1 → IsOnWay machine.heap.collector half.heap.collector
      → IsAfter config half.heap.collector next.heap.collector → free_pages start ≤ free_of half + opened → length recent + quanta ≤ machine.heap.collector.quanta + count → most_in_a_row count (recent ++ opened ∷ opens_of config cut) ≤ free_pages start + sum recent
      → most_in_a_row quanta (opens_of config cut) ≤ room → (has_ended machine.heap.collector next.heap.collector ≡ true → LeavesRoom next) → IsSet next cut
  set-after count recent start machine half next opened cut trigger way after spent few enough later ended = elim (after.case) [
    | inl (low, idle, none) ↦ set-anew next cut (omega (arith, trigger, low, after.free, later))
    | inr other ↦ elim other [
      | inl (idle, cycle) ↦ set-anew next cut (omega (arith, later, ended (ended-is machine.heap.collector half.heap.collector next.heap.collector way.phase way.cycle idle cycle)))
      | inr (runs, more) ↦ record {
        count = count;
        recent = recent ++ opened ∷ [];
        few = omega (arith, few, more, way.quanta, length-more recent opened);
        enough = subst (λ row. most_in_a_row count row ≤ free_of next + sum (recent ++ opened ∷ [])) (sym (row-more recent opened (opens_of config cut))) (omega (arith, enough, spent, after.free, sum-more recent opened));
      }
    ]
  ]

  -- a machine as an interval begins
  pub ready-anew : (machine : Machine) (cut : List (List Event)) → IsSince config (asked_of config []) machine.heap.collector.table machine → StaysInBounds config machine → (set : IsSet machine cut) → most_in_a_row quanta (opens_of config cut) ≤ room
      → IsReady set.count set.recent [] machine.heap.collector.table machine cut
  ready-anew machine cut since stays set later = record { since = since; stays = stays; few = set.few; enough = set.enough; later = later }

  -- one that has a quantum run ends it
  ready-quantum : (count : ℕ) (recent : List ℕ) (before : List Event) (start : Table Block) (machine : Machine) (event : Event) (cut : List (List Event)) → room ≤ config.trigger + 1 → IsReady count recent before start machine ((before ++ event ∷ []) ∷ cut)
      → has_quantum machine event ≡ true → (has_ended machine.heap.collector (event_step machine event).state.heap.collector ≡ true → LeavesRoom (event_step machine event).state)
      → (set : IsSet (event_step machine event).state cut) × IsReady set.count set.recent [] (event_step machine event).state.heap.collector.table (event_step machine event).state cut
  ready-quantum count recent before start machine event cut trigger ready runs ended =
      let half : Machine = half_step machine event in
      let next : Machine = (event_step machine event).state in
      let opened : ℕ = opens_at_most config (before ++ event ∷ []) in
      let ends = ends-interval config before start machine event ready.since ready.stays runs in
      let later : most_in_a_row quanta (opens_of config cut) ≤ room = omega (arith, row-after quanta (opened ∷ []) (opens_of config cut), ready.later) in
      let set : IsSet next cut = set-after count recent start machine half next opened cut trigger (half-on_way machine event) ends.after ends.room ready.few ready.enough later ended in
      (set, ready-anew next cut ends.since (next-stays config machine event ready.stays) set later)

  -- No event from here on is answered by a full heap or puts anything into a flagged page
  pub never-full : (events : List Event) (count : ℕ) (recent : List ℕ) (before : List Event) (start : Table Block) (machine : Machine) → 1 ≤ quanta → room ≤ config.trigger + 1 → IsReady count recent before start machine (intervals before machine events)
      → AllByRecursion HasHadFewer (moments machine events) → AllByRecursion LeavesRoom (cycle_ends machine events)
      → AllByRecursion (λ answer. is_heap_full answer ≡ false) (machine_replies machine events) × LeaveFlagged machine events
  unfolding machine_replies
  never-full [] count recent before start machine some trigger ready fewer left = (tt, tt)
  never-full (event ∷ events) count recent before start machine some trigger ready fewer left =
      let begins = begun-with config event events before machine in
      let fits : pages_of (λ k. asked_of config before k + class_parts k (asked_parts config event)) class_sizes ≤ free_pages start =
      omega (arith, opens-event config before event, begins.opens, start-room count recent before start machine (intervals before machine (event ∷ events)) ready some fewer.0 begins.first begins.later begins.is) in
      let served = event-served config (asked_of config before) start machine event ready.since fits in
      let rest = go (has_quantum machine event) refl ready (never-full events) in
      ((served.reply, rest.0), (served.flagged.flagged, rest.1))
    where
      next : Machine
      next = (event_step machine event).state

      Serves : Type 0
      Serves = AllByRecursion (λ answer. is_heap_full answer ≡ false) (machine_replies next events) × LeaveFlagged next events

      later_ends : AllByRecursion LeavesRoom (cycle_ends next events)
      later_ends = ends-later LeavesRoom next (cycle_ends next events) (has_ended machine.heap.collector next.heap.collector) left

      go : (cut : Bool) → has_quantum machine event ≡ cut → IsReady count recent before start machine (if cut then (before ++ event ∷ []) ∷ intervals [] next events else intervals (before ++ event ∷ []) next events)
          → ((count : ℕ) (recent : List ℕ) (before : List Event) (start : Table Block) (machine : Machine) → 1 ≤ quanta → room ≤ config.trigger + 1 → IsReady count recent before start machine (intervals before machine events)
          → AllByRecursion HasHadFewer (moments machine events) → AllByRecursion LeavesRoom (cycle_ends machine events)
          → AllByRecursion (λ answer. is_heap_full answer ≡ false) (machine_replies machine events) × LeaveFlagged machine events)
          → Serves
      go true runs ready' on =
          let (set, begins) = ready-quantum count recent before start machine event (intervals [] next events) trigger ready' runs (λ ended. end-here LeavesRoom next (cycle_ends next events) (has_ended machine.heap.collector next.heap.collector) ended left) in
          on set.count set.recent [] next.heap.collector.table next some trigger begins fewer.1 later_ends
      go false quiet ready' on =
          on count recent (before ++ event ∷ []) start next some trigger (ready-quiet count recent before start machine event (intervals (before ++ event ∷ []) next events) ready' quiet) fewer.1 later_ends
