-- The counts of a run: each command adds so much to them, and each quantum, and an event is one of each at most.
-- So births, cycles, quanta and letters of the trace stay within a small multiple of the number of events.
use Rattle.std.proofs.Common.{◌≡◌, ℕ, suc, ◌+◌, ◌*◌, ◌==◌, ◌≤◌, Bool, true, false, if◌then◌else◌, List, [], ◌∷◌, length, replicate, refl, ◌∙◌, subst, arith}
use Rattle.std.proofs.{Math.Nat.suc-mul, lemmas.List.{length-append, length-replicate}}
use Rattle.mh_model.specs.{declared.command.Command.Command, declared.command.Control.Control}
use Rattle.mh_model.specs.{declared.command.Event.Event, declared.config.Config.Config, declared.config.Rules.Rules}
use Rattle.mh_model.specs.{declared.config.Rules.TheVariants.Second, declared.reply.Reply.Reply, World.says}
use Rattle.mh_model.specs.{Classes.parts, Trace.M, Mutator.{HeapState, heap_effect, mutator_step}}
use Rattle.mh_model.specs.Machine.{Machine, new_units, command_units, first_machine, quantum_run, command_step, control_step, half_step, event_step, machine_after}
use Rattle.mh_run_laws.specs.Bounds.{most_blocks, most_letters, IsWithinItsEvents, RunsStayWithinTheirEvents}
use Rattle.mh_table_laws.proofs.objects.Parts.{parts_fit}
use Rattle.mh_laws.proofs.{costs.Quanta.units-quantum, commands.CommandAnswers.new-done}
use Rattle.mh_laws.proofs.commands.LeftUnchanged.{made_group-fields, mutator_step-course}
use Rattle.mh_laws.proofs.{runs.EveryMoment.config-mutator_step, bounds.CycleBounds.quantum-number}

-- Commands ---------------------------------------------------------------------------------------

births-heap_effect : (heap : HeapState) (who : ℕ) (command : Command) → (heap_effect heap who command).state.next_birth ≤ heap.next_birth + 1
unfolding heap_effect
births-heap_effect heap who asked = grind arith

-- a command bears one object at most
births-mutator_step : (heap : HeapState) (who : ℕ) (command : Command) → (mutator_step heap who command).state.next_birth ≤ heap.next_birth + 1
unfolding mutator_step
births-mutator_step heap who command = grind (arith, births-heap_effect)

-- a new object is as many units as it has blocks, if it is made, or one
new_units-few : (rules : Rules) (answer : Reply) (blocks : ℕ) → (answer ≡ Reply.Done → blocks ≤ most_blocks) → new_units rules answer blocks ≤ most_blocks
new_units-few rules answer blocks few = grind arith

-- a command is no more units than an object has blocks
command_units-few : (heap : HeapState) (who : ℕ) (command : Command) → command_units heap.config command (mutator_step heap who command).reply ≤ most_blocks
command_units-few heap who (Command.New slot references numbers) = new_units-few heap.config.rules (mutator_step heap who (Command.New slot references numbers)).reply (length (parts references numbers)) few
  where
    few : (mutator_step heap who (Command.New slot references numbers)).reply ≡ Reply.Done → length (parts references numbers) ≤ most_blocks
    few e = let born = new-done heap who slot references numbers e in
        parts_fit.few Second references numbers (made_group-fields heap.collector.table heap.next_birth heap.collector.cycle references numbers born.made born.group)
command_units-few heap who asked = omega arith

-- Runs -------------------------------------------------------------------------------------------

-- a machine whose counts are no larger than so many commands and quanta can make them
record IsAfter (config : Config) (commands quanta : ℕ) (machine : Machine) : Type 0 where
  pub config_is : machine.heap.config ≡ config
  pub births : machine.heap.next_birth ≤ commands
  pub cycles : machine.heap.collector.cycle ≤ quanta
  pub counted : machine.trace.quanta ≤ quanta
  pub letters : length machine.trace.letters ≤ commands * most_blocks + quanta * config.quantum
  pub units : machine.units ≤ commands * most_blocks

module _ (config : Config) where
  command-after : (commands quanta : ℕ) (machine : Machine) (who : ℕ) (command : Command) → IsAfter config commands quanta machine → IsAfter config (suc commands) quanta (command_step machine who command).state
  unfolding command_step
  command-after commands quanta machine who command is =
      let units : ℕ = command_units machine.heap.config command (mutator_step machine.heap who command).reply in
      let few : units ≤ most_blocks = command_units-few machine.heap who command in
      record {
        config_is = config-mutator_step machine.heap who command ∙ is.config_is;
        births = omega (arith, births-mutator_step machine.heap who command, is.births);
        cycles = omega (arith, (mutator_step-course machine.heap who command).cycle, is.cycles);
        counted = is.counted;
        letters = omega (arith, few, length-append machine.trace.letters (replicate units M), length-replicate units M, is.letters);
        units = omega (arith, few, is.units);
      }

  quantum-after : (commands quanta : ℕ) (machine : Machine) → IsAfter config commands quanta machine → IsAfter config commands (suc quanta) (quantum_run machine).state
  unfolding quantum_run
  quantum-after commands quanta machine is = grind (arith, units-quantum, quantum-number, length-append, length-replicate, suc-mul)

  -- there may have been a command or a quantum more
  command-more : (commands quanta : ℕ) (machine : Machine) → IsAfter config commands quanta machine → IsAfter config (suc commands) quanta machine
  command-more commands quanta machine is = grind arith

  quantum-more : (commands quanta : ℕ) (machine : Machine) → IsAfter config commands quanta machine → IsAfter config commands (suc quanta) machine
  quantum-more commands quanta machine is = grind arith

  if-after : (test : Bool) (commands quanta : ℕ) (machine : Machine) → IsAfter config commands quanta machine → IsAfter config commands (suc quanta) (if test then (quantum_run machine).state else machine)
  if-after true commands quanta machine is = quantum-after commands quanta machine is
  if-after false commands quanta machine is = quantum-more commands quanta machine is

  control-after : (commands quanta : ℕ) (machine : Machine) (control : Control) → IsAfter config commands quanta machine → IsAfter config commands (suc quanta) (control_step machine control).state
  unfolding control_step
  control-after commands quanta machine Control.Quantum is = go (machine.heap.config.every == 0)
    where
      go : (test : Bool) → IsAfter config commands (suc quanta) (if test then quantum_run machine else says (Reply.Spent 0 machine.heap.collector.phase) machine).state
      go true = quantum-after commands quanta machine is
      go false = quantum-more commands quanta machine is
  control-after commands quanta machine asked is = grind (arith, quantum-more)

  -- an event is a command and a quantum at most
  event-after : (commands quanta : ℕ) (machine : Machine) (event : Event) → IsAfter config commands quanta machine → IsAfter config (suc commands) (suc quanta) (event_step machine event).state
  unfolding event_step
  event-after commands quanta machine (Event.Session who command) is = search (arith, if-after, command-after)
  event-after commands quanta machine (Event.Control control) is = search (arith, command-more, control-after)

  events-after : (events : List Event) (count : ℕ) (machine : Machine) → IsAfter config count count machine → IsAfter config (count + length events) (count + length events) (machine_after machine events)
  unfolding machine_after
  events-after [] count machine is = subst (λ n. IsAfter config n n machine) (omega arith) is
  events-after (event ∷ events) count machine is =
      let next : Machine = (event_step machine event).state in
      subst (λ n. IsAfter config n n (machine_after next events)) (omega arith) (events-after events (suc count) next (event-after count count machine event is))

  -- Every moment of a run is within its events
  run-after : (events : List Event) → IsAfter config (length events) (length events) (machine_after (first_machine config) events)
  run-after events =
      let machine : Machine = machine_after (first_machine config) events in
      subst (λ n. IsAfter config n n machine) (omega arith) (events-after events 0 (first_machine config) (record { config_is = refl; births = omega arith; cycles = omega arith; counted = omega arith; letters = omega arith; units = omega arith }))

  half-after : (count : ℕ) (machine : Machine) (event : Event) → IsAfter config count count machine → IsAfter config (suc count) (suc count) (half_step machine event)
  half-after count machine (Event.Session who command) is = search (arith, quantum-more, command-after)
  half-after count machine (Event.Control control) is = grind arith

  within : (count : ℕ) (machine : Machine) → IsAfter config count count machine → IsWithinItsEvents count machine
  within count machine is = grind arith

  few-letters : most_letters config ≤ 1003661
  few-letters = grind arith

-- No count of a run grows past a small multiple of its events
pub runs_within_events : RunsStayWithinTheirEvents
runs_within_events = record {
  after_events = λ config events. within config (length events) (machine_after (first_machine config) events) (run-after config events);
  after_commands = λ config events event. let machine = machine_after (first_machine config) events in
      within config (suc (length events)) (half_step machine event) (half-after config (length events) machine event (run-after config events));
  few = few-letters;
}
