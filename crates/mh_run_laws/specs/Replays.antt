-- Machines that go through their events one by one.
use Rattle.std.specs.Prelude.{◌≡◌, List, [], ◌∷◌, ◌++◌}
use Rattle.mh_model.specs.{declared.command.Event.Event, declared.config.Config.Config}
use Rattle.mh_model.specs.Machine.{Machine, first_machine, event_step, machine_after, machine_replies}
use Rattle.mh_model.specs.Snapshot.{Moment, first_moment, moment_after}

-- the machine after the first events of a run
abbrev pub machine_at : Config → List Event → Machine
machine_at config before = machine_after (first_machine config) before

-- the moment after them: that machine, the world beside it, and the snapshot of its cycle
abbrev pub moment_at : Config → List Event → Moment
moment_at config before = moment_after (first_moment config) before

-- The machine after one list of events and another is the machine after the first, taken through the other. With one event more it is what that
-- event's step leaves
pub record MachineAfterMore : Type 0 where
  pub events : (machine : Machine) (before more : List Event) → machine_after machine (before ++ more) ≡ machine_after (machine_after machine before) more
  pub event : (machine : Machine) (before : List Event) (event : Event) → machine_after machine (before ++ event ∷ []) ≡ (event_step (machine_after machine before) event).state

-- The replies to one list of events and another are those to the first, and then those of the machine after it to the other. With one event more, the
-- reply to it follows
pub record MachineRepliesMore : Type 0 where
  pub events : (machine : Machine) (before more : List Event) → machine_replies machine (before ++ more) ≡ machine_replies machine before ++ machine_replies (machine_after machine before) more
  pub event : (machine : Machine) (before : List Event) (event : Event) → machine_replies machine (before ++ event ∷ []) ≡ machine_replies machine before ++ (event_step (machine_after machine before) event).reply ∷ []
