-- The induction over a run: before each machine in defragmentation lies the moment at which that defragmentation began.
-- So each forwarder that a finished cycle leaves was made by it.
use Rattle.std.proofs.Common.{◌≡◌, true, false, inl, inr, List, [], ◌∷◌, ◌++◌, None, ℕ, refl, sym, ap, ◌∙◌, subst, append_assoc, arith}
use Rattle.std.proofs.{lemmas.Bool.{false≢true, cases_Bool}, lemmas.List.append-nil}
use Rattle.mh_model.specs.{declared.command.Event.Event, declared.config.Config.Config}
use Rattle.mh_model.specs.{declared.cycle.Phase.TheVariants.Defrag, Table.forward_at}
use Rattle.mh_model.specs.{Collector.{Collector, is_idle, is_start_due, quantum}, Mutator.HeapState}
use Rattle.mh_model.specs.Machine.{Machine, first_machine, quantum_run, command_step, control_step, half_step, event_step, machine_after}
use Rattle.mh_model.specs.{Snapshot.has_quantum, Invariant.{in_trace, IsSteady}}
use Rattle.mh_run_laws.specs.{BesideTheWorld.IsInCycle, Forwarders.{HasBegun, FinishedCyclesMadeTheirForwarders}}
use Rattle.mh_laws.proofs.{commands.LeftUnchanged.mutator_step-course, costs.QuantumStarts.{idle_is, quantum-rests}}
use Rattle.mh_laws.proofs.{snapshots.RunningCycles.moments_keep, snapshots.SteadyStates.collectors-steady}
use Rattle.mh_laws.proofs.forwarders.BegunWithin.{quanta-made}

-- Events -----------------------------------------------------------------------------------------

pub after-more : (machine : Machine) (before more : List Event) → machine_after machine (before ++ more) ≡ machine_after (machine_after machine before) more
unfolding machine_after
after-more machine [] more = refl
after-more machine (event ∷ before) more = after-more (event_step machine event).state before more

pub after-one : (machine : Machine) (event : Event) → machine_after machine (event ∷ []) ≡ (event_step machine event).state
unfolding machine_after
after-one machine event = refl

-- the same phase, of the same cycle
record IsStill (old new : Collector) : Type 0 where
  pub phase : new.phase ≡ old.phase
  pub cycle : new.cycle ≡ old.cycle

half-still : (machine : Machine) (e : Event) → IsStill machine.heap.collector (half_step machine e).heap.collector
unfolding command_step
half-still machine (Event.Session who command) = let course = mutator_step-course machine.heap who command in record { phase = course.phase; cycle = course.cycle }
half-still machine (Event.Control control) = record { phase = refl; cycle = refl }

-- an event without a quantum leaves what its half step does
event-still : (machine : Machine) (e : Event) → has_quantum machine e ≡ false → IsStill (half_step machine e).heap.collector (event_step machine e).state.heap.collector
unfolding event_step control_step
event-still machine e none = grind arith

-- and one with a quantum what that makes of it
pub event-quantum : (machine : Machine) (e : Event) → has_quantum machine e ≡ true → (event_step machine e).state.heap.collector ≡ (quantum (half_step machine e).heap.config (half_step machine e).heap.collector).collector
unfolding event_step control_step quantum_run
event-quantum machine e due = grind arith

-- Behind a collector -----------------------------------------------------------------------------

module _ (config : Config) where
  abbrev machine_of : List Event → Machine
  machine_of events = machine_after (first_machine config) events

  -- the defragmentation of a collector's cycle began within a quantum of these events, and no block was a forwarder then
  abbrev Follows : List Event → Collector → Type 0
  Follows events c = (begun : Collector) × HasBegun config events begun × (begun.cycle ≡ c.cycle) × ((place : ℕ) → forward_at begun.table place ≡ None)

  -- so it is of a collector in defragmentation
  abbrev Remembers : List Event → Collector → Type 0
  Remembers events c = c.phase ≡ Defrag → Follows events c

  still-remembers : (events : List Event) (old new : Collector) → IsStill old new → Remembers events old → Remembers events new
  still-remembers events old new still h defrags = search arith

  -- after one event more it lies as far back
  later-follows : (events : List Event) (e : Event) (c : Collector) → Follows events c → Follows (events ++ e ∷ []) c
  later-follows events e c (begun, has, cycle, none) = grind (arith, append_assoc, cycle)

  module _ (events : List Event) (e : Event) where
    abbrev half : HeapState
    half = (half_step (machine_of events) e).heap

    abbrev after : Collector
    after = (quantum half.config half.collector).collector

    half-steady : IsSteady half.collector
    half-steady = collectors-steady.of_heaps half (moments_keep.half config events e).0

    half-remembers : Remembers events (machine_of events).heap.collector → Remembers events half.collector
    half-remembers = grind (arith, still-remembers, half-still)

    quantum-follows : has_quantum (machine_of events) e ≡ true → Remembers events half.collector → IsInCycle half → in_trace after.phase ≡ false → Follows (events ++ e ∷ []) after
    quantum-follows runs h within ended =
        let made = quanta-made half.config half.collector half-steady in
        elim (made.reaches ended within) [
          | inl entered ↦ let (begun, has, cycle, none) = later-follows events e half.collector (h entered.0) in (begun, has, cycle ∙ entered.1, none)
          | inr (begun, begins, since) ↦ (begun, record { before = events; event = e; later = []; split = refl; runs = runs; begins = begins }, since.cycle, made.begins begun begins)
        ]

    quantum-remembers : has_quantum (machine_of events) e ≡ true → Remembers events half.collector → Remembers (events ++ e ∷ []) after
    quantum-remembers runs h defrags = elim (cases_Bool (is_idle half.collector.phase)) [
      | inr cycle ↦ quantum-follows runs h (inl cycle) (ap in_trace defrags)
      | inl idle ↦ elim (cases_Bool (is_start_due half.config half.collector)) [
        | inl due ↦ quantum-follows runs h (inr due) (ap in_trace defrags)
        | inr rests ↦ absurd (false≢true (sym (ap is_idle defrags) ∙ ap (λ (k : Collector). is_idle k.phase) (quantum-rests half.config half.collector idle rests) ∙ idle))
      ]
    ]

    event-remembers : Remembers events (machine_of events).heap.collector → Remembers (events ++ e ∷ []) (event_step (machine_of events) e).state.heap.collector
    event-remembers h = elim (cases_Bool (has_quantum (machine_of events) e)) [
      | inl runs ↦ subst (Remembers (events ++ e ∷ [])) (sym (event-quantum (machine_of events) e runs)) (quantum-remembers runs (half-remembers h))
      | inr none ↦ still-remembers (events ++ e ∷ []) half.collector (event_step (machine_of events) e).state.heap.collector (event-still (machine_of events) e none) (λ defrags. later-follows events e half.collector (half-remembers h defrags))
    ]

    machine-step : machine_of (events ++ e ∷ []) ≡ (event_step (machine_of events) e).state
    machine-step = after-more (first_machine config) events (e ∷ []) ∙ after-one (machine_of events) e

  run-remembers : (more events : List Event) → Remembers events (machine_of events).heap.collector → Remembers (events ++ more) (machine_of (events ++ more)).heap.collector
  run-remembers [] events h = subst (λ es. Remembers es (machine_of es).heap.collector) (sym (append-nil events)) h
  run-remembers (e ∷ more) events h =
      subst (λ es. Remembers es (machine_of es).heap.collector) (append_assoc events (e ∷ []) more)
      (run-remembers more (events ++ e ∷ []) (subst (λ (m : Machine). Remembers (events ++ e ∷ []) m.heap.collector) (sym (machine-step events e)) (event-remembers events e h)))

  first-remembers : Remembers [] (machine_of []).heap.collector
  unfolding machine_after
  first-remembers defrags = absurd (false≢true (sym (ap is_idle defrags)))

  -- a quantum of a run that ends its cycle
  finished : (events : List Event) (e : Event) → has_quantum (machine_of events) e ≡ true → IsInCycle (half events e) → is_idle (after events e).phase ≡ true → Follows (events ++ e ∷ []) (after events e)
  finished events e runs within ended = quantum-follows events e runs (half-remembers events e (run-remembers events [] first-remembers)) within (ap in_trace (idle_is (after events e).phase ended))

-- Each quantum of a run that ends its cycle
pub finished-made : FinishedCyclesMadeTheirForwarders
finished-made config events e runs within ended =
    let is = ap (λ (m : Machine). m.heap.collector) (machine-step config events e) ∙ event-quantum (machine_after (first_machine config) events) e runs in
    let (begun, has, cycle, none) = finished config events e runs within (ap (λ (k : Collector). is_idle k.phase) (sym is) ∙ ended) in
    (begun, has, record { cycle = cycle ∙ ap (λ (k : Collector). k.cycle) (sym is); forwarders = λ place target there. none place })
