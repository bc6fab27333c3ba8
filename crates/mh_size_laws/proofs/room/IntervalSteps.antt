-- What an event does to an interval: it goes on with it, or its quantum ends it. And no cycle takes more quanta than its bound.
use Rattle.std.proofs.Common.{◌≡◌, ℕ, zero, suc, ◌+◌, ◌<◌, ◌≤◌, Bool, true, false, if◌then◌else◌, Option, None, List, [], ◌∷◌, ◌++◌, replicate, refl, sym, ap, ◌∙◌, subst, arith}
use Rattle.std.proofs.lemmas.Bool.{false≢true}
use Rattle.std.specs.List.{AllByRecursion}
use Rattle.mh_model.specs.{declared.command.Event.Event, declared.config.Config.Config, Bound.most_quanta}
use Rattle.mh_model.specs.{Classes.class_sizes, Pages.{Page, Table, free_pages}, Table.Block}
use Rattle.mh_model.specs.Collector.{Collector, is_idle, quantum}
use Rattle.mh_model.specs.Machine.{Machine, first_machine, quantum_run, command_step, half_step, event_step, machine_after}
use Rattle.mh_model.specs.{Snapshot.has_quantum, Openings.{class_parts, asked_parts, opens_at_most, free_of}}
use Rattle.mh_model.specs.Intervals.{moments}
use Rattle.mh_laws.proofs.bounds.CyclesInTime.{cycle_ends, StaysInBounds, by_command, by_quantum, by_asking}
use Rattle.mh_laws.proofs.commands.LeftUnchanged.{mutator_step-course, event-keeps}
use Rattle.mh_laws.proofs.runs.EveryMoment.{half_step-keeps, event_step-keeps}
use Rattle.mh_laws.proofs.{rooms.QuietEvents.{quiet-event, quantum-event}, rooms.Quanta.{IsAfter, quantum-after}}
use Rattle.mh_size_laws.specs.Room.{CyclesTakeTheBound}
use Rattle.mh_size_laws.proofs.openings.MadeParts.{opened-none, opened-few, pages_of, pages_of-more}
use Rattle.mh_size_laws.proofs.openings.Intervals.{asked_of, asked-cons, asked-append, IsSince, since-half, since-likewise, since-more}

-- Half steps -------------------------------------------------------------------------------------

-- a half step leaves the phase, the cycle's number and the count of its quanta
pub record IsOnWay (old new : Collector) : Type 0 where
  pub phase : new.phase ≡ old.phase
  pub cycle : new.cycle ≡ old.cycle
  pub quanta : new.quanta ≡ old.quanta

pub half-on_way : (machine : Machine) (event : Event) → IsOnWay machine.heap.collector (half_step machine event).heap.collector
unfolding command_step
half-on_way machine (Event.Session who command) = let course = mutator_step-course machine.heap who command in record { phase = course.phase; cycle = course.cycle; quanta = course.quanta }
half-on_way machine (Event.Control control) = record { phase = refl; cycle = refl; quanta = refl }

pub run-collector : (machine : Machine) → (quantum_run machine).state.heap.collector ≡ (quantum machine.heap.config machine.heap.collector).collector
unfolding quantum_run
run-collector machine = refl

-- Ends of cycles ---------------------------------------------------------------------------------

module _ (P : Machine → Type 0) (machine : Machine) (rest : List Machine) where
  pub end-here : (ended : Bool) → ended ≡ true → AllByRecursion P (if ended then machine ∷ rest else rest) → P machine
  end-here ended is all = grind (arith, false≢true)

  pub ends-later : (ended : Bool) → AllByRecursion P (if ended then machine ∷ rest else rest) → AllByRecursion P rest
  ends-later ended all = grind arith

-- Intervals --------------------------------------------------------------------------------------

module _ (config : Config) where
  -- an interval with one event more
  pub opens-event : (before : List Event) (event : Event) → pages_of (λ k. asked_of config before k + class_parts k (asked_parts config event)) class_sizes ≤ opens_at_most config (before ++ event ∷ [])
  opens-event before event = pages_of-more (λ k. asked_of config before k + class_parts k (asked_parts config event)) (asked_of config (before ++ event ∷ [])) (λ k. omega (arith, asked-append config before (event ∷ []) k, asked-cons config event [] k))

  pub opens-more : (before : List Event) (event : Event) → opens_at_most config before ≤ opens_at_most config (before ++ event ∷ [])
  opens-more before event = pages_of-more (asked_of config before) (asked_of config (before ++ event ∷ [])) (λ k. omega (arith, asked-append config before (event ∷ []) k))

  pub next-stays : (machine : Machine) (event : Event) → StaysInBounds config machine → StaysInBounds config (event_step machine event).state
  next-stays machine event stays = event_step-keeps (StaysInBounds config) (by_command config) (by_quantum config) (by_asking config) machine event stays

  pub half-stays : (machine : Machine) (event : Event) → StaysInBounds config machine → StaysInBounds config (half_step machine event)
  half-stays machine event stays = half_step-keeps (StaysInBounds config) (by_command config) (by_quantum config) (by_asking config) machine event stays

  -- an event that has no quantum run goes on with the interval
  pub since-quiet : (before : List Event) (start : Table Block) (machine : Machine) (event : Event) → IsSince config (asked_of config before) start machine → has_quantum machine event ≡ false → IsSince config (asked_of config (before ++ event ∷ [])) start (event_step machine event).state
  since-quiet before start machine event since quiet =
      let half : Machine = half_step machine event in
      let next : Machine = (event_step machine event).state in
      let asked : ℕ → ℕ = λ k. asked_of config before k + class_parts k (asked_parts config event) in
      since-more config asked (asked_of config (before ++ event ∷ [])) start next (λ k. omega (arith, asked-append config before (event ∷ []) k, asked-cons config event [] k))
      (since-likewise config asked start half next (quiet-event machine event quiet) (since-half config (asked_of config before) start machine event since))

  -- one that has a quantum run ends the interval, of which no more pages were opened than its parts fill
  pub record EndsInterval (before : List Event) (start : Table Block) (machine : Machine) (event : Event) : Type 0 where
    pub since : IsSince config (asked_of config []) (event_step machine event).state.heap.collector.table (event_step machine event).state
    pub after : IsAfter config (half_step machine event).heap.collector (event_step machine event).state.heap.collector
    pub room : free_pages start ≤ free_of (half_step machine event) + opens_at_most config (before ++ event ∷ [])

  pub ends-interval : (before : List Event) (start : Table Block) (machine : Machine) (event : Event) → IsSince config (asked_of config before) start machine → StaysInBounds config machine → has_quantum machine event ≡ true → EndsInterval before start machine event
  ends-interval before start machine event is stays runs =
      let half : Machine = half_step machine event in
      let next : Machine = (event_step machine event).state in
      let since = since-half config (asked_of config before) start machine event is in
      let asked : ℕ → ℕ = λ k. asked_of config before k + class_parts k (asked_parts config event) in
      let collector : next.heap.collector ≡ (quantum config half.heap.collector).collector = ap (λ (m : Machine). m.heap.collector) (quantum-event machine event runs) ∙ run-collector half ∙ ap (λ c. (quantum c half.heap.collector).collector) since.config_is in
      record {
        since = record {
          config_is = (next-stays machine event stays).config_is;
          slots = (event-keeps machine event).whole.slots is.slots;
          opened = opened-none class_sizes (asked_of config []) next.heap.collector.table;
        };
        after = subst (IsAfter config half.heap.collector) (sym collector) (quantum-after config half.heap.collector (half-stays machine event stays).bounds since.slots);
        room = omega (arith, opened-few asked start half.heap.collector.table since.opened, opens-event before event);
      }

-- The first machine ------------------------------------------------------------------------------

pub free-first : (count : ℕ) → free_pages (replicate {A = Option (Page Block)} count None) ≡ count
free-first zero = refl
free-first (suc count) = ap suc (free-first count)

-- The bound of a cycle ---------------------------------------------------------------------------

pub some-quanta : (config : Config) → 1 ≤ most_quanta config
some-quanta config = grind arith

all-moments : (P : Machine → Type 0) (events : List Event) (machine : Machine) → ((before : List Event) → P (machine_after machine before)) → AllByRecursion P (moments machine events)
unfolding machine_after
all-moments P [] machine each = (each [], tt)
all-moments P (event ∷ events) machine each = (each [], all-moments P events (event_step machine event).state (λ before. each (event ∷ before)))

-- No cycle takes more quanta than its bound
pub cycles-bounded : CyclesTakeTheBound
cycles-bounded config events = all-moments (λ (machine : Machine). is_idle machine.heap.collector.phase ≡ false → machine.heap.collector.quanta < most_quanta config) events (first_machine config) (λ before. (cycle_ends.after_events config before).running)
