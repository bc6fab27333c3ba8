-- Auxiliary definitions: what loops, private functions and the insides of types keep. No public contract depends on them.
use Rattle.std.specs.Prelude.{◌≡◌, Bool, ◌&&◌, if◌then◌else◌, Option, Some, None, List}
use Rattle.mh_model.specs.{declared.deed.Deed.Deed, Machine.Machine, Trace.{mutator_count, collector_count}}
use Rattle.mh_deeds.specs.{Accounts.{account_in, is_whole}, declared.account.Account.Account}
use Rattle.mh_embed.specs.{declared.collecting.Counts.Counts, Drivers.all_deeds}

-- What a machine behind a handle keeps of its last event.

-- the deeds of an event that kept them, if none is missing
abbrev pub deeds_in : Bool → Account → Option (List Deed)
deeds_in is_told account = if is_told && is_whole account then Some (all_deeds (account_in account)) else None

-- counts of a machine's trace
pub record IsCounted (machine : Machine) (counts : Counts) : Type 0 where
  pub mutator : counts.mutator ≡ mutator_count machine.trace.letters
  pub collector : counts.collector ≡ collector_count machine.trace.letters
  pub quanta : counts.quanta ≡ machine.trace.quanta
