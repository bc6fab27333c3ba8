-- What is wrong with the first bad entry of a history.
use Rattle.std.specs.Prelude.{◌≡◌, ◌≢◌, ℕ, suc, ◌-◌, ◌<◌, ◌⊎◌, Option, List, ◌∷◌, ◌++◌, length, map, slice_get, take}
use Rattle.mh_model.specs.{declared.command.Event.Event, declared.config.Config.Config, declared.dump.DumpItem.DumpItem}
use Rattle.mh_model.specs.{declared.history.Entry.Entry, declared.history.Measured.Measured, declared.reply.Reply.Reply}
use Rattle.mh_model.specs.{HistoryTexts.measured_step, Limits.most_entries, Machine.{Machine, event_step}}
use Rattle.mh_run_laws.specs.Replays.{machine_at}
use Rattle.mh_judge.specs.declared.entry_fault.{EntryFault.EntryFault, Units.Units}

-- Replies ----------------------------------------------------------------------------------------

-- the first item in which two dumps differ, counted from 1: a dump that has ended has none there
pub record IsFirstDifference (given right : List DumpItem) (number : ℕ) (item other : Option DumpItem) : Type 0 where
  pub counted : 0 < number
  pub same : take (number - 1) given ≡ take (number - 1) right
  pub given_is : item ≡ slice_get given (number - 1)
  pub right_is : other ≡ slice_get right (number - 1)
  pub differs : item ≢ other

-- what a fault says of a reply beside the right one
abbrev pub IsReplyFault : Reply → Reply → EntryFault → Type 0
IsReplyFault given right (EntryFault.Reply stated wanted) = (stated ≡ given) × (wanted ≡ right) × (given ≢ right)
IsReplyFault (Reply.Dump given) (Reply.Dump right) (EntryFault.Item number item other) = IsFirstDifference given right number item other
IsReplyFault given right _ = ⊥

-- Entries ----------------------------------------------------------------------------------------

-- the entry that a machine makes of an event
abbrev pub IsRight : Machine → Event → Measured → Type 0
IsRight machine event right = right ≡ measured_step machine event (event_step machine event)

-- what a fault says of an entry beside the machine's reply
abbrev pub IsEntryFault : Machine → Entry → EntryFault → Type 0
IsEntryFault machine entry f = IsReplyFault entry.reply (event_step machine entry.event).reply f

-- the units of an entry
abbrev pub stated_units : Measured → Units
stated_units measured = record { mutator = measured.mutator; collector = measured.collector }

-- what it says of one with its units beside the right one: its reply isn't right, or only its units aren't
abbrev pub IsWrongBeside : Measured → Measured → EntryFault → Type 0
IsWrongBeside given right (EntryFault.Units stated wanted) =
    (given.entry.reply ≡ right.entry.reply) × (stated ≡ stated_units given) × (wanted ≡ stated_units right) × (stated ≢ wanted)
IsWrongBeside given right f = IsReplyFault given.entry.reply right.entry.reply f

-- the same beside the entry that the machine makes
abbrev pub IsMeasuredFault : Machine → Measured → EntryFault → Type 0
IsMeasuredFault machine measured f = IsWrongBeside measured (measured_step machine measured.entry.event (event_step machine measured.entry.event)) f

-- Histories --------------------------------------------------------------------------------------

-- what a fault says of an entry after so many: it is one too many, or what else is wrong with it
abbrev pub IsFaultAfter : {X : Type 0} → (X → EntryFault → Type 0) → ℕ → X → EntryFault → Type 0
IsFaultAfter Wrong count entry f = ((count ≡ most_entries) × (f ≡ EntryFault.TooMany)) ⊎ ((count < most_entries) × Wrong entry f)

-- a fault of the entry with this number, counted from 1, by what is wrong with an entry after those before it
pub record HasFault {X : Type 0} (Wrong : List X → X → EntryFault → Type 0) (history : List X) (number : ℕ) (f : EntryFault) : Type 0 where
  pub before : List X
  pub entry : X
  pub after : List X
  pub history_is : history ≡ before ++ entry ∷ after
  pub numbered : number ≡ suc (length before)
  pub fault : IsFaultAfter (Wrong before) (length before) entry f

-- what is wrong with an entry after others, by what is wrong with one that a machine is to answer
abbrev pub IsWrongAfter : {X : Type 0} → Config → (X → Event) → (Machine → X → EntryFault → Type 0) → List X → X → EntryFault → Type 0
IsWrongAfter config event_of Wrong before = Wrong (machine_at config (map event_of before))
