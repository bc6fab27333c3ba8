-- A machine that a program drives, and what an event makes of it.
use Rattle.std.specs.Prelude.{◌≡◌, ◌<◌, ℕ, Bool, true, false, Option, Some, None, List, [], ◌++◌}
use Rattle.mh_model.specs.{declared.command.Event.Event, declared.config.Config.Config, declared.deed.Deed.Deed}
use Rattle.mh_model.specs.{declared.reply.Reply.Reply, Deeds.{Account, Ran, account_of}, Limits.most_events}
use Rattle.mh_model.specs.Machine.{Machine}
use Rattle.mh_machine.specs.Running.{Running, Does, Forgets, Reserves, first_running}
use Rattle.mh_embed.specs.{declared.numbers.UnitNumbers.UnitNumbers, Numbers.{no_units, units_between}}

-- a machine, what its last event added to the trace, whether events keep their deeds, and the deeds of the last one, if they were kept
pub record Collected : Type 0 where
  pub machine : Running
  pub units : UnitNumbers
  pub tells : Bool
  pub deeds : Option (List Deed)

-- before the first event
abbrev pub first_collected : Config → Collected
first_collected config = record { machine = first_running config; units = no_units; tells = false; deeds = None }

-- Events -----------------------------------------------------------------------------------------

-- the deeds of an event: those of its command, and then those of its quantum
abbrev pub all_deeds : Account → List Deed
all_deeds account = account.command ++ of_ran account.quantum where
  of_ran : Option Ran → List Deed
  of_ran None = []
  of_ran (Some ran) = ran.deeds

-- the deeds that are kept of an event: none, if they weren't asked for; else all, unless memory was refused for one
abbrev pub AreKept : Bool → Machine → Event → Option (List Deed) → Type 0
AreKept false machine event deeds = deeds ≡ None
AreKept true machine event None = Unit {0}
AreKept true machine event (Some deeds) = deeds ≡ all_deeds (account_of machine event)

-- a machine did an event
pub record Collecting (old : Collected) (event : Event) (given : Reply) (new : Collected) : Type 0 where
  pub room : old.machine.done < most_events
  pub does : Does old.machine event given new.machine
  pub units : new.units ≡ units_between old.machine.machine new.machine.machine
  pub tells : new.tells ≡ old.tells
  pub deeds : AreKept old.tells old.machine.machine event new.deeds

-- Memory -----------------------------------------------------------------------------------------

-- a machine has room for so many events
pub record Reserving (events : ℕ) (old new : Collected) : Type 0 where
  pub same : new ≡ record old { machine = new.machine }
  pub reserves : Reserves events old.machine new.machine

-- a machine has forgotten its trace, and keeps all else
pub record Forgetting (old new : Collected) : Type 0 where
  pub same : new ≡ record old { machine = new.machine }
  pub forgets : Forgets old.machine new.machine
