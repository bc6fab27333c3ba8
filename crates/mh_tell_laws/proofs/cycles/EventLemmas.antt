-- What the account of an event says of the machine before and after it.
use Rattle.std.proofs.Common.{◌≡◌, ℕ, ◌+◌, ◌==◌, ◌≤◌, ◌<◌, Bool, true, false, if◌then◌else◌, List, [], ◌++◌, length, refl, sym, ap, subst, arith}
use Rattle.std.proofs.lemmas.Bool.{true≢false}
use Rattle.mh_model.specs.{declared.command.Command.Command, declared.command.Event.Event}
use Rattle.mh_model.specs.{declared.config.Config.Config, declared.cycle.Phase.Phase}
use Rattle.mh_model.specs.{declared.cycle.Phase.TheVariants.Mark, declared.deed.Deed.Deed, World.says}
use Rattle.mh_model.specs.{Collector.{Collector, quantum}, CycleBounds.StageOf}
use Rattle.mh_model.specs.{Deeds.{quantum_deeds, command_deeds, ran_if, account_of}, Invariant.IsKeeping}
use Rattle.mh_model.specs.Machine.{Machine, first_machine, is_quantum_due, with_collector, quantum_run, command_step, control_step, half_step, event_step, machine_after, command_units}
use Rattle.mh_model.specs.{Mutator.mutator_step, Pages.{free_pages, HaveTheirSlots}, Snapshot.has_quantum}
use Rattle.mh_model.specs.{Table.is_forwarder, Trace.{TraceState, mutator_count, collector_count}}
use Rattle.mh_model.specs.{declared.command.Control.Control, declared.reply.Reply.Reply}
use Rattle.mh_model.proofs.LetterLemmas.{mutator-M, collector-M, mutator-C, collector-C}
use Rattle.mh_blocks.proofs.CountLemmas.{in_table}
use Rattle.mh_laws.proofs.bounds.CyclesInTime.{StaysInBounds, by_command, by_quantum, by_asking, run-stays}
use Rattle.mh_laws.proofs.commands.LeftUnchanged.{mutator_step-course, quantum-keeps, first_table-pages}
use Rattle.mh_laws.proofs.runs.EveryMoment.{half_step-keeps, event_step-keeps}
use Rattle.mh_laws.proofs.{snapshots.SteadyStates.{collectors-steady, heaps-kept}, rooms.QuietEvents.quantum-event}
use Rattle.mh_tell_laws.specs.Cycles.{makes, opens, frees, drops, empties, moves, ran_deeds, account_deeds}
use Rattle.mh_tell_laws.proofs.cycles.Balances.{Balances, balances-append, quantum-balances, command-balances}
use Rattle.mh_tell_laws.proofs.cycles.CountLemmas.{is_live, live-count, old-count, free-count}
use Rattle.mh_tell_laws.proofs.cycles.UnitLemmas.{HasGrey, IsSpent, spent-append, quantum-spent, command-deeds, command-spent}

-- Machines of a run ------------------------------------------------------------------------------

-- what holds of a machine at each moment of a run under a configuration
pub record IsSafe (config : Config) (machine : Machine) : Type 0 where
  pub keeps : IsKeeping machine.heap
  pub stays : StaysInBounds config machine
  pub slots : HaveTheirSlots machine.heap.collector.table

module _ (config : Config) where
  safe-command : (machine : Machine) (who : ℕ) (command : Command) → IsSafe config machine → IsSafe config (command_step machine who command).state
  unfolding command_step
  safe-command machine who command safe = record {
    keeps = heaps-kept.commands machine.heap safe.keeps who command;
    stays = by_command config machine who command safe.stays;
    slots = (mutator_step-course machine.heap who command).slots safe.slots;
  }

  safe-quantum : (machine : Machine) → IsSafe config machine → IsSafe config (quantum_run machine).state
  unfolding quantum_run
  safe-quantum machine safe = record {
    keeps = heaps-kept.quanta machine.heap safe.keeps;
    stays = by_quantum config machine safe.stays;
    slots = (quantum-keeps 0 machine.heap.config machine.heap.collector).slots safe.slots;
  }

  safe-asking : (machine : Machine) → IsSafe config machine → IsSafe config (with_collector machine (record (machine.heap.collector) { is_asked = true }))
  safe-asking machine safe = record { keeps = heaps-kept.asking machine.heap safe.keeps; stays = by_asking config machine safe.stays; slots = safe.slots }

  pub safe-first : IsSafe config (first_machine config)
  unfolding machine_after
  safe-first = record { keeps = heaps-kept.first config; stays = run-stays config []; slots = (first_table-pages config).slots }

  pub safe-half : (machine : Machine) (event : Event) → IsSafe config machine → IsSafe config (half_step machine event)
  safe-half = half_step-keeps (IsSafe config) safe-command safe-quantum safe-asking

  pub safe-event : (machine : Machine) (event : Event) → IsSafe config machine → IsSafe config (event_step machine event).state
  safe-event = event_step-keeps (IsSafe config) safe-command safe-quantum safe-asking

-- while blocks are marked, one is grey
grey-stage : (phase : Phase) (collector : Collector) → collector.phase ≡ phase → StageOf phase collector → phase ≡ Mark → 0 < length collector.grey
grey-stage phase collector is stage marks = subst (λ p. StageOf p collector) marks stage

safe-grey : (config : Config) (machine : Machine) → IsSafe config machine → HasGrey machine.heap.collector
safe-grey config machine safe = grey-stage machine.heap.collector.phase machine.heap.collector refl (safe.stays).bounds.under.stage

-- What deeds tell --------------------------------------------------------------------------------

-- what deeds tell of the machine before and after them
pub record Tell (old : Machine) (deeds : List Deed) (new : Machine) : Type 0 where
  pub live : Balances (in_table is_live) makes frees live-count old.heap.collector.table new.heap.collector.table deeds
  pub forwarders : Balances (in_table is_forwarder) moves drops old-count old.heap.collector.table new.heap.collector.table deeds
  pub free : Balances free_pages empties opens free-count old.heap.collector.table new.heap.collector.table deeds
  pub units : ℕ
  pub spent : IsSpent old.heap.collector.phase deeds units new.heap.collector.phase
  pub collector : collector_count new.trace.letters ≡ collector_count old.trace.letters + units
  pub mutator : mutator_count old.trace.letters ≤ mutator_count new.trace.letters

pub tell-append : (first second third : Machine) (xs ys : List Deed) → Tell first xs second → Tell second ys third → Tell first (xs ++ ys) third
tell-append first second third xs ys one two = record {
  live = balances-append (in_table is_live) makes frees live-count first.heap.collector.table second.heap.collector.table third.heap.collector.table xs ys one.live two.live;
  forwarders = balances-append (in_table is_forwarder) moves drops old-count first.heap.collector.table second.heap.collector.table third.heap.collector.table xs ys one.forwarders two.forwarders;
  free = balances-append free_pages empties opens free-count first.heap.collector.table second.heap.collector.table third.heap.collector.table xs ys one.free two.free;
  units = one.units + two.units;
  spent = spent-append first.heap.collector.phase second.heap.collector.phase third.heap.collector.phase xs ys one.units two.units one.spent two.spent;
  collector = omega (arith, one.collector, two.collector);
  mutator = omega (arith, one.mutator, two.mutator);
}

-- an event without a quantum changes neither table nor phase nor trace after its half step
pub record IsQuiet (old new : Machine) : Type 0 where
  pub table : new.heap.collector.table ≡ old.heap.collector.table
  pub phase : new.heap.collector.phase ≡ old.heap.collector.phase
  pub count : new.heap.collector.quanta ≡ old.heap.collector.quanta
  pub trace : new.trace ≡ old.trace

nothing-tells : (old new : Machine) → IsQuiet old new → Tell old [] new
nothing-tells old new quiet = record {
  live = omega (arith, ap (in_table is_live) quiet.table);
  forwarders = omega (arith, ap (in_table is_forwarder) quiet.table);
  free = omega (arith, ap free_pages quiet.table);
  units = 0;
  spent = record { units = refl; idle = refl; ends = sym quiet.phase };
  collector = omega (arith, ap (λ (t : TraceState). collector_count t.letters) quiet.trace);
  mutator = omega (arith, ap (λ (t : TraceState). mutator_count t.letters) quiet.trace);
}

quiet : (machine : Machine) → IsQuiet machine machine
quiet machine = record { table = refl; phase = refl; count = refl; trace = refl }

-- Halves of an event -----------------------------------------------------------------------------

command_step-tells : (machine : Machine) (who : ℕ) (command : Command) → HaveTheirSlots machine.heap.collector.table → Tell machine (command_deeds machine.heap who command) (command_step machine who command).state
unfolding command_step
command_step-tells machine who command slots =
    let units : ℕ = command_units machine.heap.config command (mutator_step machine.heap who command).reply in
    let phase : (mutator_step machine.heap who command).state.collector.phase ≡ machine.heap.collector.phase = (mutator_step-course machine.heap who command).phase in
    record {
      live = command-balances (in_table is_live) makes frees live-count machine.heap who command slots;
      forwarders = command-balances (in_table is_forwarder) moves drops old-count machine.heap who command slots;
      free = command-balances free_pages empties opens free-count machine.heap who command slots;
      units = 0;
      spent = subst (IsSpent machine.heap.collector.phase (command_deeds machine.heap who command) 0) (sym phase) (command-spent machine.heap.collector.phase (command_deeds machine.heap who command) (command-deeds machine.heap who command));
      collector = omega (arith, collector-M machine.trace.letters units);
      mutator = omega (arith, mutator-M machine.trace.letters units);
    }

-- the deeds of a command
pub half-tells : (config : Config) (machine : Machine) (event : Event) → IsSafe config machine → Tell machine (account_of machine event).command (half_step machine event)
unfolding account_of
half-tells config machine (Event.Session who command) safe = command_step-tells machine who command safe.slots
half-tells config machine (Event.Control Control.Quantum) safe = nothing-tells machine machine (quiet machine)
half-tells config machine (Event.Control asked) safe = nothing-tells machine machine (quiet machine)

-- an event's quantum is that of its half step
pub account-quantum : (machine : Machine) (event : Event) → (account_of machine event).quantum ≡ ran_if (has_quantum machine event) (half_step machine event).heap
unfolding account_of
account-quantum machine (Event.Session who command) = refl
account-quantum machine (Event.Control Control.Quantum) = refl
account-quantum machine (Event.Control asked) = refl

-- without one, nothing follows the half step
pub quiet-event : (machine : Machine) (event : Event) → has_quantum machine event ≡ false → IsQuiet (half_step machine event) (event_step machine event).state
unfolding event_step control_step
quiet-event machine (Event.Session who command) none = go (is_quantum_due (command_step machine who command).state) none
  where
    go : (due : Bool) → due ≡ false → IsQuiet (command_step machine who command).state (if due then (quantum_run (command_step machine who command).state).state else (command_step machine who command).state)
    go true e = absurd (true≢false e)
    go false e = quiet (command_step machine who command).state
quiet-event machine (Event.Control Control.Quantum) none = go (machine.heap.config.every == 0) none
  where
    go : (asked : Bool) → asked ≡ false → IsQuiet machine (if asked then quantum_run machine else says (Reply.Spent 0 machine.heap.collector.phase) machine).state
    go true e = absurd (true≢false e)
    go false e = quiet machine
quiet-event machine (Event.Control Control.Start) none = record { table = refl; phase = refl; count = refl; trace = refl }
quiet-event machine (Event.Control asked) none = quiet machine

quantum_run-tells : (config : Config) (machine : Machine) → IsSafe config machine → Tell machine (quantum_deeds machine.heap.config machine.heap.collector) (quantum_run machine).state
unfolding quantum_run
quantum_run-tells config machine safe =
    let c : Collector = machine.heap.collector in
    let units : ℕ = (quantum machine.heap.config c).units in
    record {
      live = quantum-balances (in_table is_live) makes frees live-count machine.heap.config c safe.slots;
      forwarders = quantum-balances (in_table is_forwarder) moves drops old-count machine.heap.config c safe.slots;
      free = quantum-balances free_pages empties opens free-count machine.heap.config c safe.slots;
      units = units;
      spent = quantum-spent machine.heap.config c (collectors-steady.of_heaps machine.heap safe.keeps) (safe-grey config machine safe);
      collector = collector-C machine.trace.letters units;
      mutator = omega (arith, mutator-C machine.trace.letters units);
    }

-- The deeds of its quantum
pub quantum-tells : (config : Config) (machine : Machine) (event : Event) → IsSafe config machine → Tell (half_step machine event) (ran_deeds (account_of machine event).quantum) (event_step machine event).state
quantum-tells config machine event safe = subst (λ ran. Tell (half_step machine event) (ran_deeds ran) (event_step machine event).state) (sym (account-quantum machine event)) (go (has_quantum machine event) refl)
  where
    half : Machine
    half = half_step machine event

    go : (runs : Bool) → has_quantum machine event ≡ runs → Tell half (ran_deeds (ran_if runs half.heap)) (event_step machine event).state
    go true e = subst (Tell half (quantum_deeds half.heap.config half.heap.collector)) (sym (quantum-event machine event e)) (quantum_run-tells config half (safe-half config machine event safe))
    go false e = nothing-tells half (event_step machine event).state (quiet-event machine event e)

-- and all deeds of an event
pub event-tells : (config : Config) (machine : Machine) (event : Event) → IsSafe config machine → Tell machine (account_deeds (account_of machine event)) (event_step machine event).state
event-tells config machine event safe =
    tell-append machine (half_step machine event) (event_step machine event).state (account_of machine event).command (ran_deeds (account_of machine event).quantum) (half-tells config machine event safe) (quantum-tells config machine event safe)
