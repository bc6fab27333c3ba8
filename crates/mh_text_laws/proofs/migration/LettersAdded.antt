-- What an event adds to the trace under the first rules: one letter M at most, and no more letters C than a quantum may spend.
use Rattle.std.proofs.Common.{◌≡◌, ℕ, ◌+◌, ◌≤◌, ◌==◌, cond, Bool, true, false, refl, arith}
use Rattle.mh_model.specs.{declared.config.Config.Config, declared.config.Rules.TheVariants.First}
use Rattle.mh_model.specs.{declared.command.Command.Command, declared.command.Control.Control}
use Rattle.mh_model.specs.{declared.command.Event.Event, declared.reply.Reply.Reply}
use Rattle.mh_model.specs.Trace.{mutator_count, collector_count}
use Rattle.mh_model.specs.Machine.{Machine, command_units, command_step, control_step, quantum_run, event_step}
use Rattle.mh_model.proofs.LetterLemmas.{mutator-M, collector-M, mutator-C, collector-C}
use Rattle.mh_laws.proofs.{costs.Quanta.units-quantum, runs.EveryMoment.config-mutator_step}

-- Steps ------------------------------------------------------------------------------------------

-- so few letters are added, and the configuration stays
pub record IsSmallStep (before after : Machine) : Type 0 where
  pub mutator : mutator_count after.trace.letters ≤ mutator_count before.trace.letters + 1
  pub collector : collector_count after.trace.letters ≤ collector_count before.trace.letters + before.heap.config.quantum
  pub config : after.heap.config ≡ before.heap.config

stays : (machine : Machine) → IsSmallStep machine machine
stays machine = record { mutator = omega arith; collector = omega arith; config = refl }

-- a command adds one letter M under the first rules
record IsCommand (before after : Machine) : Type 0 where
  mutator : mutator_count after.trace.letters ≡ mutator_count before.trace.letters + 1
  collector : collector_count after.trace.letters ≡ collector_count before.trace.letters
  config : after.heap.config ≡ before.heap.config

first_units : (config : Config) (c : Command) (answer : Reply) → config.rules ≡ First → command_units config c answer ≡ 1
first_units config other answer is = grind arith

command_adds : (machine : Machine) (who : ℕ) (c : Command) → machine.heap.config.rules ≡ First → IsCommand machine (command_step machine who c).state
unfolding command_step
command_adds machine who c first = grind (arith, first_units, mutator-M, collector-M, config-mutator_step)

-- and with the quantum that it makes due
due_adds : (before machine : Machine) (due : Bool) → IsCommand before machine → IsSmallStep before (cond due (quantum_run machine).state machine)
unfolding quantum_run
due_adds before machine due made = grind (arith, units-quantum, mutator-C, collector-C)

quantum_adds : (machine : Machine) → IsSmallStep machine (quantum_run machine).state
unfolding quantum_run
quantum_adds machine = grind (arith, units-quantum, mutator-C, collector-C)

control_adds : (machine : Machine) (c : Control) → IsSmallStep machine (control_step machine c).state
unfolding control_step
control_adds machine Control.Quantum = by_every (machine.heap.config.every == 0) where
  by_every : (is : Bool) → IsSmallStep machine (cond is (quantum_run machine) (record { reply = Reply.Spent 0 machine.heap.collector.phase; state = machine })).state
  by_every true = quantum_adds machine
  by_every false = stays machine
control_adds machine Control.Start = record { mutator = omega arith; collector = omega arith; config = refl }
control_adds machine other = stays machine

pub event_adds : (machine : Machine) (e : Event) → machine.heap.config.rules ≡ First → IsSmallStep machine (event_step machine e).state
unfolding event_step
event_adds machine (Event.Session who c) first = search (arith, due_adds, command_adds)
event_adds machine (Event.Control c) first = control_adds machine c
