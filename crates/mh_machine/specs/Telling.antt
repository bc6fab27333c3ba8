-- What an event tells while it is done.
use Rattle.std.specs.Prelude.{◌≡◌, true, None}
use Rattle.mh_deeds.specs.{Accounts.{account_in, empty_log, is_whole}, declared.account.Account.Account}
use Rattle.mh_model.specs.Deeds as model

-- an account was told this, unless memory was refused for a deed; it has no deeds of a quantum that it wasn't told of
abbrev pub HasTold : model.Account → Account → Type 0
HasTold told kept = is_whole kept ≡ true → (account_in kept ≡ told) × (kept.quantum ≡ None → kept.ran ≡ empty_log)
