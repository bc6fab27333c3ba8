-- Accounts as they are kept.
use Rattle.std.specs.Prelude.{◌≡◌, Bool, true, ◌&&◌, [], None, option_map}
use Rattle.mh_model.specs.{declared.command.Event.Event, Deeds.{DeedLog, account_of}, Machine.Machine}
use Rattle.mh_deeds.specs.declared.account.Account.{Account}
use Rattle.mh_model.specs.Deeds as model

-- no deed, and none missing
abbrev pub empty_log : DeedLog
empty_log = record { deeds = []; is_whole = true }

-- the account of an event that does nothing
abbrev pub empty_account : Account
empty_account = record { command = empty_log; quantum = None; ran = empty_log }

-- no deed is missing in either log
abbrev pub is_whole : Account → Bool
is_whole account = account.command.is_whole && account.ran.is_whole

-- the account that is kept, where no deed is missing
abbrev pub account_in : Account → model.Account
account_in kept = record { command = kept.command.deeds; quantum = option_map (λ ended. record { ended = ended; deeds = kept.ran.deeds }) kept.quantum }

-- the account of this event was kept, unless memory was refused for a deed
abbrev pub Tells : Machine → Event → Account → Type 0
Tells machine event kept = is_whole kept ≡ true → account_in kept ≡ account_of machine event
