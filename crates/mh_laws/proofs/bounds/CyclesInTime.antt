-- A cycle ends in time: at every moment of a run what is left of it and the quanta that it has had are within its bounds.
-- From this the reply of `left` follows.
use Rattle.std.specs.Prelude.{◌<◌, ◌-◌, suc}
use Rattle.std.proofs.Common.{◌≡◌, ◌⊎◌, ℕ, suc, ◌+◌, ◌-◌, ◌<◌, ◌≤◌, true, false, if◌then◌else◌, inl, inr, List, length, None, refl, sym, ap, ◌∙◌, subst, arith}
use Rattle.std.proofs.Math.Nat.{le-div_iff_mul-le, suc-mul}
use Rattle.std.proofs.lemmas.Bool.{cases_Bool, leb-true, ltb-true, ltb-false, true≢false}
use Rattle.std.proofs.{lemmas.List.length-replicate, lemmas.Option.none-some}
use Rattle.mh_model.specs.{declared.command.Command.Command, declared.command.Control.Control}
use Rattle.mh_model.specs.{declared.command.Event.Event, declared.reply.Reply.Reply, declared.config.Config.Config}
use Rattle.mh_model.specs.declared.cycle.Phase.{Phase}
use Rattle.mh_model.specs.Collector.{Collector, Spending, first_collector, is_idle, cycle_start, quantum_start, steps, quantum}
use Rattle.mh_model.specs.{Mutator.{HeapState, mutator_step}, World.says}
use Rattle.mh_model.specs.Machine.{Machine, first_machine, quanta_left, with_collector, quantum_run, command_step, control_step, half_step, machine_after}
use Rattle.mh_model.specs.Bound.{most_steps, most_units, most_quanta}
use Rattle.mh_model.specs.CycleBounds.{in_steps, in_units, steps_left, units_left, IsUnderway, IsWithin, IsInBounds}
use Rattle.mh_model.specs.Limits.{least_quantum}
use Rattle.mh_laws.specs.Bounds.{IsInTime, HasEnded, HasRunQuanta, CycleEndsWithinItsBound, left_of, QuantaLeftEndTheCycle, CollectorsStayInBounds}
use Rattle.mh_laws.proofs.{costs.Quanta.steps-idle, commands.LeftUnchanged.{mutator_step-course, steps-keeps}}
use Rattle.mh_laws.proofs.bounds.CommandsKeepBounds.{mutator_step-carried}
use Rattle.mh_laws.proofs.bounds.WorkLeft.{none_grey, steps_left-positive}
use Rattle.mh_laws.proofs.bounds.CycleBounds.{carried-leaves, Spends, steps-spend, steps-some, KeepsCount, steps-count, page-in_steps, page-in_units, table-bounded}
use Rattle.mh_laws.proofs.runs.EveryMoment.{config-mutator_step, half_step-keeps, machine_after-keeps}
use Rattle.mh_laws.proofs.costs.QuantumStarts.{begins}
use Rattle.mh_table_laws.proofs.Lists.{none_at}

-- a configuration has a page, and its quanta at least 209 units
pub config-pages : (config : Config) → 0 < config.pages
config-pages config = grind arith

pub config-quantum : (config : Config) → least_quantum ≤ config.quantum
config-quantum config = grind arith

-- a collector as its first quantum's or next quantum's steps begin: one quantum more is counted than was paid for
record IsStarted (config : Config) (old new : Collector) : Type 0 where
  pub pages : length new.table ≡ config.pages
  pub under : IsUnderway new
  pub runs : is_idle new.phase ≡ false
  pub before : ℕ
  pub count : new.quanta ≡ suc before
  pub within : IsWithin config before (steps_left new.phase new) (units_left new.phase new)
  pub cycle : ((is_idle old.phase ≡ false) × (new.cycle ≡ old.cycle) × (before ≡ old.quanta)) ⊎ (old.cycle < new.cycle)

-- what is left of a cycle as it starts
pub record IsFresh (config : Config) (collector : Collector) : Type 0 where
  pub under : IsUnderway collector
  pub steps : steps_left collector.phase collector ≤ most_steps config
  pub units : units_left collector.phase collector ≤ most_units config

pub cycle_start-fresh : (config : Config) (collector : Collector) → IsInBounds config collector → IsFresh config (cycle_start collector)
cycle_start-fresh config collector bounds =
    let marking_steps = table-bounded in_steps (collector.cycle + 1) 64 collector.table (page-in_steps (collector.cycle + 1)) (bounds.under).sound.roomy in
    let marking_units = table-bounded in_units (collector.cycle + 1) 256 collector.table (page-in_units (collector.cycle + 1)) (bounds.under).sound.roomy in
    search (arith, none_grey)

cycle_start-started : (config : Config) (collector : Collector) → IsInBounds config collector → is_idle collector.phase ≡ true → IsStarted config collector (record (cycle_start collector) { quanta = 1 })
cycle_start-started config collector bounds idle = grind (arith, cycle_start-fresh)

with_count-started : (config : Config) (collector : Collector) → IsInBounds config collector → is_idle collector.phase ≡ false → IsStarted config collector (record collector { quanta = collector.quanta + 1 })
with_count-started config collector bounds runs = grind arith

-- a quantum begins with a cycle that runs, or leaves an idle collector as it is
quantum_start-started : (config : Config) (collector : Collector) → IsInBounds config collector → ((is_idle collector.phase ≡ true) × (quantum_start config collector ≡ collector)) ⊎ IsStarted config collector (quantum_start config collector)
quantum_start-started config collector bounds = elim (begins config collector).case [
  | inl starts ↦ inr (subst (IsStarted config collector) (sym starts.2) (cycle_start-started config collector bounds (ap is_idle starts.1)))
  | inr other ↦ elim other [ inl runs ↦ inr (subst (IsStarted config collector) (sym runs.1) (with_count-started config collector bounds runs.0)) | inr rests ↦ inl (ap is_idle rests.1, rests.2) ]
]

-- What a quantum leaves: the bounds, one quantum more of the same cycle while it runs, and little that was not spent
pub record IsQuantum (config : Config) (old : Collector) (after : Spending) : Type 0 where
  pub bounds : IsInBounds config after.collector
  pub rest : is_idle after.collector.phase ≡ false → config.quantum ≤ after.units + (least_quantum - 1)
  pub cycle : old.cycle ≤ after.collector.cycle
  pub same : after.collector.cycle ≡ old.cycle → is_idle after.collector.phase ≡ false → (is_idle old.phase ≡ false) × (after.collector.quanta ≡ old.quanta + 1)

quantum-idle : (config : Config) (collector : Collector) → IsInBounds config collector → is_idle collector.phase ≡ true → IsQuantum config collector (steps config.quantum config.quantum false collector)
quantum-idle config collector bounds idle = grind (arith, steps-idle, true≢false)

-- nothing is left if no cycle runs
pub idle-left : (phase : Phase) (collector : Collector) → is_idle phase ≡ true → (steps_left phase collector ≡ 0) × (units_left phase collector ≡ 0)
idle-left other collector idle = grind arith

started-within : (config : Config) (old new : Collector) → IsStarted config old new → (after : Spending) → Spends false config.quantum new after
    → steps_left after.collector.phase after.collector + 1 ≤ steps_left new.phase new → KeepsCount new after.collector
    → IsWithin config after.collector.quanta (steps_left after.collector.phase after.collector) (units_left after.collector.phase after.collector)
started-within config old new started after spent some count = grind (arith, cases_Bool, idle-left, suc-mul)

started-same : (config : Config) (old new : Collector) → IsStarted config old new → (after : Collector) → KeepsCount new after → after.cycle ≡ old.cycle → is_idle after.phase ≡ false → (is_idle old.phase ≡ false) × (after.quanta ≡ old.quanta + 1)
started-same config old new started after count e runs = grind arith

started-cycle : (config : Config) (old new : Collector) → IsStarted config old new → old.cycle ≤ new.cycle
started-cycle config old new started = grind arith

quantum-started : (config : Config) (old new : Collector) → IsStarted config old new → IsQuantum config old (steps config.quantum config.quantum false new)
quantum-started config old new started =
    let spent = steps-spend config.quantum config.quantum false new (omega arith) started.under in
    let some = steps-some config.quantum false new (config-quantum config) started.under started.runs in
    let (count, back) = steps-count config.quantum config.quantum false new (λ idle. absurd (true≢false (sym idle ∙ started.runs))) in
    record {
      bounds = record {
        pages = (steps-keeps 0 config.quantum config.quantum false new).pages ∙ started.pages;
        under = spent.under;
        idle = count.ended;
        within = started-within config old new started (steps config.quantum config.quantum false new) spent some count;
      };
      rest = spent.rest;
      cycle = omega (arith, count.cycle, started-cycle config old new started);
      same = started-same config old new started (steps config.quantum config.quantum false new).collector count;
    }

-- A quantum keeps a cycle within its bounds
pub quantum-in_bounds : (config : Config) (collector : Collector) → IsInBounds config collector → IsQuantum config collector (quantum config collector)
unfolding quantum
quantum-in_bounds config collector bounds = elim (quantum_start-started config collector bounds) [
  | inl same ↦ subst (λ c. IsQuantum config collector (steps config.quantum config.quantum false c)) (sym same.1) (quantum-idle config collector bounds same.0)
  | inr started ↦ quantum-started config collector (quantum_start config collector) started
]

-- Runs -------------------------------------------------------------------------------------------

command-in_bounds : (config : Config) (heap : HeapState) (who : ℕ) (command : Command) → IsInBounds config heap.collector → IsInBounds config (mutator_step heap who command).state.collector
command-in_bounds config heap who command bounds =
    let new : Collector = (mutator_step heap who command).state.collector in
    let course = mutator_step-course heap who command in
    let leaves = carried-leaves heap.collector new course (mutator_step-carried heap who command (bounds.under).sound) bounds.under in
    grind arith

first-in_bounds : (config : Config) → IsInBounds config (first_collector config)
first-in_bounds config =
    let pages : length (first_collector config).table ≡ config.pages = length-replicate config.pages None in
    record {
      pages = pages;
      under = record { some_page = omega (arith, pages, config-pages config); sound = none_grey (first_collector config) refl (record { pages = λ number page e. absurd (none-some page (sym (none_at config.pages number) ∙ e)) }); stage = refl };
      idle = λ idle. refl;
      within = record { by_steps = omega arith; by_units = λ large. omega arith };
    }

asked-in_bounds : (config : Config) (collector : Collector) → IsInBounds config collector → IsInBounds config (record collector { is_asked = true })
asked-in_bounds config collector bounds = grind arith

-- In time ----------------------------------------------------------------------------------------

fewer-than_most : (config : Config) (collector : Collector) → IsInBounds config collector → is_idle collector.phase ≡ false → collector.quanta < most_quanta config
fewer-than_most config collector bounds runs = grind (arith, steps_left-positive, leb-true, le-div_iff_mul-le)

in_time : (config : Config) (collector : Collector) → IsInBounds config collector → IsInTime config collector
in_time config collector bounds = record { running = fewer-than_most config collector bounds; idle = bounds.idle }

most_quanta-few : (config : Config) → most_quanta config ≤ 786576
most_quanta-few config = grind arith

count-most : (config : Config) (collector : Collector) → IsInBounds config collector → collector.quanta ≤ most_quanta config
count-most config collector bounds = grind (arith, cases_Bool, fewer-than_most)

quanta_left-some : (config : Config) (collector : Collector) → IsInBounds config collector → is_idle collector.phase ≡ false → 1 ≤ quanta_left config collector
quanta_left-some config collector bounds runs = grind (arith, fewer-than_most)

-- A collector stays within the bounds of its cycle
pub collectors-in_bounds : CollectorsStayInBounds
collectors-in_bounds = record {
  first = first-in_bounds;
  commands = command-in_bounds;
  asking = asked-in_bounds;
  quanta = λ config collector bounds. (quantum-in_bounds config collector bounds).bounds;
  in_time = in_time;
  count = count-most;
  few = most_quanta-few;
  left = quanta_left-some;
}

-- a machine of this configuration within the bounds of its cycle
pub record StaysInBounds (config : Config) (machine : Machine) : Type 0 where
  pub config_is : machine.heap.config ≡ config
  pub bounds : IsInBounds config machine.heap.collector

module _ (config : Config) where
  pub by_command : (machine : Machine) (who : ℕ) (command : Command) → StaysInBounds config machine → StaysInBounds config (command_step machine who command).state
  unfolding command_step
  by_command machine who command stays = search (arith, config-mutator_step, command-in_bounds)

  -- the quantum that a machine runs is one of its configuration
  pub run-in_bounds : (machine : Machine) → StaysInBounds config machine → IsQuantum config machine.heap.collector (quantum machine.heap.config machine.heap.collector)
  run-in_bounds machine stays = grind (arith, quantum-in_bounds config machine.heap.collector stays.bounds)

  pub by_quantum : (machine : Machine) → StaysInBounds config machine → StaysInBounds config (quantum_run machine).state
  unfolding quantum_run
  by_quantum machine stays = record { config_is = stays.config_is; bounds = (run-in_bounds machine stays).bounds }

  pub by_asking : (machine : Machine) → StaysInBounds config machine → StaysInBounds config (with_collector machine (record (machine.heap.collector) { is_asked = true }))
  by_asking machine stays = grind arith

  -- Every moment of a run is within the bounds
  pub run-stays : (events : List Event) → StaysInBounds config (machine_after (first_machine config) events)
  run-stays events = machine_after-keeps (StaysInBounds config) by_command by_quantum by_asking events (first_machine config) (record { config_is = refl; bounds = first-in_bounds config })

  pub half-stays : (events : List Event) (event : Event) → StaysInBounds config (half_step (machine_after (first_machine config) events) event)
  half-stays events event = grind (arith, half_step-keeps, by_command, by_quantum, by_asking, run-stays)

  -- so many quanta of a cycle were run since a machine, or the cycle has ended
  record IsLater (machine later : Machine) : Type 0 where
    pub stays : StaysInBounds config later
    pub cycle : machine.heap.collector.cycle ≤ later.heap.collector.cycle
    pub same : later.heap.collector.cycle ≡ machine.heap.collector.cycle → is_idle later.heap.collector.phase ≡ false → later.heap.collector.quanta + machine.trace.quanta ≡ machine.heap.collector.quanta + later.trace.quanta

  command-later : (first machine : Machine) (who : ℕ) (command : Command) → IsLater first machine → IsLater first (command_step machine who command).state
  unfolding command_step
  command-later first machine who command later = grind (arith, mutator_step-course, by_command)

  quantum-later : (first machine : Machine) → IsLater first machine → IsLater first (quantum_run machine).state
  unfolding quantum_run
  quantum-later first machine later = grind (arith, run-in_bounds machine later.stays)

  asking-later : (first machine : Machine) → IsLater first machine → IsLater first (with_collector machine (record (machine.heap.collector) { is_asked = true }))
  asking-later first machine later = grind arith

  ends-later : (first later : Machine) → IsLater first later → HasRunQuanta (most_quanta config - first.heap.collector.quanta) first later → HasEnded first.heap.collector.cycle later.heap.collector
  ends-later first later is run = grind (arith, cases_Bool, ltb-true, ltb-false, fewer-than_most)

  first-later : (machine : Machine) → StaysInBounds config machine → IsLater machine machine
  first-later machine stays = grind arith

-- A cycle ends within its bound
pub cycle_ends : CycleEndsWithinItsBound
cycle_ends = record {
  after_events = λ config events. in_time config _ (run-stays config events).bounds;
  after_commands = λ config events event. in_time config _ (half-stays config events event).bounds;
  ends = λ config events more runs run.
      let machine = machine_after (first_machine config) events in
      ends-later config machine (machine_after machine more)
      (machine_after-keeps (IsLater config machine) (command-later config machine) (quantum-later config machine) (asking-later config machine) more machine (first-later config machine (run-stays config events))) run;
}

-- and reports so while it runs
quanta_left-running : (config : Config) (machine : Machine) → machine.heap.config ≡ config → is_idle machine.heap.collector.phase ≡ false → left_of machine ≡ most_quanta config - machine.heap.collector.quanta
quanta_left-running config machine same runs = grind arith

control_left : (machine : Machine) → control_step machine Control.Left ≡ says (Reply.Left (left_of machine)) machine
unfolding control_step
control_left machine = refl

pub cycle_tells : QuantaLeftEndTheCycle
cycle_tells = record {
  told = control_left;
  none = λ machine idle. ap (λ b. if b then 0 else most_quanta machine.heap.config - machine.heap.collector.quanta) idle;
  some = λ config events runs.
      let stays = run-stays config events in
      subst (λ c. 1 ≤ quanta_left c (machine_after (first_machine config) events).heap.collector) (sym stays.config_is) (quanta_left-some config _ stays.bounds runs);
  ends = λ config events more runs run.
      let machine = machine_after (first_machine config) events in
      let left = quanta_left-running config machine (run-stays config events).config_is runs in
      cycle_ends.ends config events more runs (subst (λ count. HasRunQuanta count machine (machine_after machine more)) left run);
}
