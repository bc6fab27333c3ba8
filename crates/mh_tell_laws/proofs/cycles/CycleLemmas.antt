-- The induction over the events of a cycle, and over the cycles of a run.
use Rattle.std.proofs.Common.{◌≡◌, ℕ, suc, ◌+◌, ◌-◌, ◌/◌, min, ◌≤◌, nat_lt, nat_le, Bool, true, false, ◌||◌, if◌then◌else◌, inl, inr, Option, Some, None, List, [], ◌∷◌, ◌++◌, length, filter_map, refl, sym, ap, ◌∙◌, subst, arith, append-nil}
use Rattle.std.proofs.{lemmas.Bool.{cases_Bool, and_parts, true≢false}, lemmas.Grind.flat_map-append}
use Rattle.std.proofs.{lemmas.List.length-append, lemmas.List.Elements.filter_map-append}
use Rattle.std.specs.List.{AllByRecursion}
use Rattle.mh_model.specs.{declared.command.Event.Event, declared.config.Config.Config}
use Rattle.mh_model.specs.{declared.cycle.Phase.TheVariants.Idle, declared.deed.Deed.Deed}
use Rattle.mh_model.specs.Bound.{most_steps, most_units, most_quanta}
use Rattle.mh_model.specs.{Collector.{Collector, is_idle, is_start_due, quantum}, CycleBounds.IsInBounds}
use Rattle.mh_model.specs.{Deeds.{Ran, Account, ran_if, account_of}, Limits.quantum_overhead}
use Rattle.mh_model.specs.Machine.{Machine, first_machine, quantum_run, command_step, half_step, event_step}
use Rattle.mh_model.specs.{Pages.free_pages, Snapshot.has_quantum}
use Rattle.mh_laws.proofs.{bounds.CyclesInTime.collectors-in_bounds, commands.LeftUnchanged.mutator_step-course}
use Rattle.mh_laws.proofs.{costs.QuantumStarts.idle_is, rooms.QuietEvents.quantum-event}
use Rattle.mh_laws.proofs.rooms.Quanta.{IsAfter, quantum-after}
use Rattle.mh_tell_laws.specs.Cycles.{Cycle, starts_cycle, quantum_account, cycle_begun, cycle_with, has_ended, cycle_through, cycles_from, ran_deeds, account_deeds, deeds_in_cycle, quanta_in_cycle, units_in}
use Rattle.mh_tell_laws.specs.CycleLaws.{AddsUp, CyclesAddUp}
use Rattle.mh_tell_laws.proofs.cycles.UnitLemmas.{units-parted}
use Rattle.mh_tell_laws.proofs.cycles.EventLemmas.{IsSafe, safe-first, safe-half, safe-event, Tell, tell-append, account-quantum, quiet-event, quantum-tells, event-tells}

-- Quanta -----------------------------------------------------------------------------------------

-- 1 if a quantum was run
abbrev if_ran : Option Ran → ℕ
if_ran None = 0
if_ran (Some ran) = 1

one-ran : (account : Account) → length (filter_map (λ (a : Account). a.quantum) (account ∷ [])) ≡ if_ran account.quantum
one-ran account = go account.quantum
  where
    go : (quantum : Option Ran) → length (filter_map (λ (a : Account). a.quantum) (record { command = account.command; quantum = quantum } ∷ [])) ≡ if_ran quantum
    go None = refl
    go (Some ran) = refl

-- a half step leaves the phase, and how many quanta were counted
record KeepsCount (old new : Machine) : Type 0 where
  pub phase : new.heap.collector.phase ≡ old.heap.collector.phase
  pub count : new.heap.collector.quanta ≡ old.heap.collector.quanta

half-count : (machine : Machine) (event : Event) → KeepsCount machine (half_step machine event)
unfolding command_step
half-count machine (Event.Session who command) = let course = mutator_step-course machine.heap who command in record { phase = course.phase; count = course.quanta }
half-count machine (Event.Control control) = record { phase = refl; count = refl }

-- what an event does to a cycle that runs before its quantum, or starts by it
record IsCounted (ran old : ℕ) (new : Collector) : Type 0 where
  pub few : ran ≤ 1
  pub running : is_idle new.phase ≡ false → new.quanta ≡ old + ran

quantum-counted : (config : Config) (machine : Machine) (event : Event) → IsSafe config machine → IsCounted (if_ran (account_of machine event).quantum) machine.heap.collector.quanta (event_step machine event).state.heap.collector
unfolding quantum_run
quantum-counted config machine event safe = subst (λ ran. IsCounted (if_ran ran) machine.heap.collector.quanta (event_step machine event).state.heap.collector) (sym (account-quantum machine event)) (go (has_quantum machine event) refl)
  where
    half : Machine
    half = half_step machine event

    kept : KeepsCount machine half
    kept = half-count machine event

    sound : IsSafe config half
    sound = safe-half config machine event safe

    after : IsAfter half.heap.config half.heap.collector (quantum half.heap.config half.heap.collector).collector
    after = quantum-after half.heap.config half.heap.collector (subst (λ c. IsInBounds c half.heap.collector) (sym (sound.stays).config_is) (sound.stays).bounds) sound.slots

    go : (runs : Bool) → has_quantum machine event ≡ runs → IsCounted (if_ran (ran_if runs half.heap)) machine.heap.collector.quanta (event_step machine event).state.heap.collector
    go true e = subst (λ (m : Machine). IsCounted 1 machine.heap.collector.quanta m.heap.collector) (sym (quantum-event machine event e)) (record {
      few = omega arith;
      running = λ runs. elim after.case [
        | inl rests ↦ absurd (true≢false (sym rests.1 ∙ runs))
        | inr other ↦ elim other [ inl ended ↦ absurd (true≢false (sym ended.0 ∙ runs)) | inr goes ↦ goes.1 ∙ ap (λ n. n + 1) kept.count ]
      ];
    })
    go false e = let quiet = quiet-event machine event e in record { few = omega arith; running = λ runs. omega (arith, quiet.count, kept.count) }

-- Cycles -----------------------------------------------------------------------------------------

-- what holds of a cycle, at each of its events
record IsSound (config : Config) (cycle : Cycle) : Type 0 where
  pub safe : IsSafe config cycle.now
  pub tell : Tell cycle.start (deeds_in_cycle cycle) cycle.now
  pub idle : cycle.start.heap.collector.phase ≡ Idle
  pub running : has_ended cycle ≡ false → cycle.now.heap.collector.quanta ≡ length (quanta_in_cycle cycle)
  pub most : length (quanta_in_cycle cycle) ≤ most_quanta config

most-some : (config : Config) → 1 ≤ most_quanta config
most-some config = go (nat_lt quantum_overhead config.quantum)
  where
    go : (large : Bool) → 1 ≤ (if large then min (most_steps config) (most_units config / (config.quantum - quantum_overhead) + 1) else most_steps config)
    go true = omega arith
    go false = omega arith

begun-sound : (config : Config) (number : ℕ) (machine : Machine) (event : Event) → IsSafe config machine → starts_cycle machine event ≡ true → IsSound config (cycle_begun number machine event)
begun-sound config number machine event safe starts =
    let half : Machine = half_step machine event in
    let account : Account = account_of machine event in
    let (runs, due) = and_parts (has_quantum machine event) (is_start_due half.heap.config half.heap.collector) starts in
    let idle : half.heap.collector.phase ≡ Idle = idle_is half.heap.collector.phase (and_parts (is_idle half.heap.collector.phase) (half.heap.collector.is_asked || nat_le (free_pages half.heap.collector.table) half.heap.config.trigger) due).0 in
    let counted = quantum-counted config machine event safe in
    let ran : length (quanta_in_cycle (cycle_begun number machine event)) ≡ if_ran account.quantum = one-ran (quantum_account account) in
    let kept = half-count machine event in
    let none : machine.heap.collector.quanta ≡ 0 = ((safe.stays).bounds).idle (ap is_idle (sym kept.phase ∙ idle)) in
    record {
      safe = safe-event config machine event safe;
      tell = subst (λ deeds. Tell half deeds (event_step machine event).state) (sym (append-nil (ran_deeds account.quantum))) (quantum-tells config machine event safe);
      idle = idle;
      running = λ goes. omega (arith, counted.running goes, ran, none);
      most = omega (arith, most-some config, counted.few, ran);
    }

with-sound : (config : Config) (cycle : Cycle) (event : Event) → has_ended cycle ≡ false → IsSound config cycle → IsSound config (cycle_with cycle event)
with-sound config cycle event runs sound =
    let account : Account = account_of cycle.now event in
    let after : Machine = (event_step cycle.now event).state in
    let counted = quantum-counted config cycle.now event sound.safe in
    let quantum_of = λ (a : Account). a.quantum in
    let ran : length (quanta_in_cycle (cycle_with cycle event)) ≡ length (quanta_in_cycle cycle) + if_ran account.quantum =
    ap length (filter_map-append quantum_of cycle.accounts (account ∷ [])) ∙ length-append (quanta_in_cycle cycle) (filter_map quantum_of (account ∷ [])) ∙ ap (λ n. length (quanta_in_cycle cycle) + n) (one-ran account) in
    let deeds : deeds_in_cycle (cycle_with cycle event) ≡ deeds_in_cycle cycle ++ account_deeds account = flat_map-append account_deeds cycle.accounts (account ∷ []) ∙ ap (λ list. deeds_in_cycle cycle ++ list) (append-nil (account_deeds account)) in
    let in_time = (collectors-in_bounds.in_time config cycle.now.heap.collector ((sound.safe).stays).bounds).running runs in
    record {
      safe = safe-event config cycle.now event sound.safe;
      tell = subst (λ list. Tell cycle.start list after) (sym deeds) (tell-append cycle.start cycle.now after (deeds_in_cycle cycle) (account_deeds account) sound.tell (event-tells config cycle.now event sound.safe));
      idle = sound.idle;
      running = λ goes. omega (arith, counted.running goes, sound.running runs, ran);
      most = omega (arith, in_time, sound.running runs, counted.few, ran);
    }

through-sound : (config : Config) (events : List Event) (cycle : Cycle) → IsSound config cycle → IsSound config (cycle_through cycle events)
through-sound config [] cycle sound = sound
through-sound config (event ∷ events) cycle sound = elim (cases_Bool (has_ended cycle)) [
  | inl ended ↦ subst (λ b. IsSound config (if b then cycle else cycle_through (cycle_with cycle event) events)) (sym ended) sound
  | inr runs ↦ subst (λ b. IsSound config (if b then cycle else cycle_through (cycle_with cycle event) events)) (sym runs) (through-sound config events (cycle_with cycle event) (with-sound config cycle event runs sound))
]

-- The numbers of a cycle
sound-adds : (config : Config) (cycle : Cycle) → IsSound config cycle → AddsUp config cycle
sound-adds config cycle sound =
    let tell = sound.tell in
    let deeds : List Deed = deeds_in_cycle cycle in
    let none : units_in Idle Idle deeds ≡ 0 = ap (λ phase. units_in Idle phase deeds) (sym sound.idle) ∙ (tell.spent).idle in
    record {
      live = tell.live;
      old = tell.forwarders;
      free = tell.free;
      units = omega (arith, tell.mutator, tell.collector);
      phases = omega (arith, tell.collector, (tell.spent).units, units-parted Idle deeds, none);
      quanta = sound.most;
    }

-- Runs -------------------------------------------------------------------------------------------

from-adds : (config : Config) (events : List Event) (number : ℕ) (machine : Machine) → IsSafe config machine → AllByRecursion (AddsUp config) (cycles_from number machine events)
unfolding cycles_from
from-adds config [] number machine safe = tt
from-adds config (event ∷ events) number machine safe = go (starts_cycle machine event) refl (from-adds config events (suc number) (event_step machine event).state (safe-event config machine event safe))
  where
    go : (starts : Bool) → starts_cycle machine event ≡ starts → AllByRecursion (AddsUp config) (cycles_from (suc number) (event_step machine event).state events)
        → AllByRecursion (AddsUp config) (if starts then cycle_through (cycle_begun number machine event) events ∷ cycles_from (suc number) (event_step machine event).state events else cycles_from (suc number) (event_step machine event).state events)
    go true e later =
        let cycle : Cycle = cycle_through (cycle_begun number machine event) events in
        (sound-adds config cycle (through-sound config events (cycle_begun number machine event) (begun-sound config number machine event safe e)), later)
    go false e later = later

-- The numbers of each cycle add up
pub cycles-add : CyclesAddUp
cycles-add config events = from-adds config events 1 (first_machine config) (safe-first config)
