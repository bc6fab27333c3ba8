-- Auxiliary definitions: what loops, private functions and the insides of types keep. No public contract depends on them.
use Rattle.std.specs.Prelude.{◌+◌, ◌<◌, length, ◌≡◌, ◌≤◌, List, [], Option, None}
use Rattle.mh_model.specs.{declared.birth.TheConstants.LIFE, Machine.{Machine, first_machine, machine_after}}
use Rattle.mh_model.specs.{declared.command.Event.Event, declared.config.Config.Config, Limits.most_events}
use Rattle.mh_model.specs.{declared.history.Entry.Entry, declared.history.Measured.Measured, declared.deed.Deed.Deed}
use Rattle.mh_model.specs.Deeds.{Ran}
use Rattle.mh_machine.specs.{declared.engine.Engine.Engine, Running.Running}
use Rattle.mh_run_laws.specs.Forgetting.{Recalls}
use Rattle.mh_deeds.specs.declared.account.Account.{Account}
use Rattle.mh_model.specs.Deeds as model

-- Engines as the machines that they are, and how large their counts may be.

-- the machine that an engine is
abbrev pub machine_of : Engine → Machine
machine_of engine = record { heap = engine.heap.kept; units = engine.units; trace = engine.trace.trace }

-- no count of a machine is close to 2 ^ 62
pub record IsShort (machine : Machine) : Type 0 where
  pub births : machine.heap.next_birth < LIFE
  pub cycles : machine.heap.collector.cycle < LIFE
  pub quanta : machine.trace.quanta + 1 < LIFE
  pub letters : length machine.trace.letters + machine.heap.config.quantum < LIFE
  pub units : machine.units < LIFE

-- the machine is that after some events, as many as it has done, but that it may have forgotten how its trace begins
pub record IsRunning (config : Config) (running : Running) : Type 0 where
  pub events : List Event
  pub few : running.done ≤ most_events
  pub count : length events ≡ running.done
  pub recalls : Recalls (machine_after (first_machine config) events) running.machine

-- a command was told, and no quantum
abbrev pub command_alone : List Deed → model.Account
command_alone deeds = record { command = deeds; quantum = None }

-- no deed was told yet
abbrev pub nothing : model.Account
nothing = command_alone []

-- a quantum, if one was run, was told after the deeds of a command, by a relation that says what was told
abbrev pub AddsRan : {Executor : Type 0} → (model.Account → Executor → Type 0) → Executor → Option Ran → Executor → Type 0
AddsRan tells old ran new = (deeds : List Deed) → tells (command_alone deeds) old → tells (record { command = deeds; quantum = ran }) new

-- the event of an entry
abbrev pub event_of : Entry → Event
event_of entry = entry.event

-- the event of an entry with its numbers
abbrev pub measured_event : Measured → Event
measured_event measured = measured.entry.event
