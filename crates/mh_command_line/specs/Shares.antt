-- A share of the mutator, as a word of the command line has it.
use Rattle.std.specs.Prelude.{◌≡◌, ℕ, nat_le, if◌then◌else◌, List, [], ◌∷◌, Option, Some, None, Result, Ok, Err}
use Rattle.mh_model.specs.Bytes.{Text, cut_after, number}
use Rattle.mh_orders.specs.declared.promises.Share.{Share}
use Rattle.mh_command_line.specs.declared.share.{AskedShare.AskedShare, NotShare.NotShare}

-- a share and the least length of its windows
abbrev pub shared_of : Share → ℕ × ℕ
shared_of share = (share.percent, share.from)

-- the share of two numbers, of which the first is at most 100 per cent
abbrev pub share_numbered : Option ℕ → Option ℕ → Option (ℕ × ℕ)
share_numbered None from = None
share_numbered (Some percent) None = None
share_numbered (Some percent) (Some from) = if nat_le percent 100 then Some (percent, from) else None

-- the same of a text that is cut at its colons, of which it has one
abbrev pub share_cut : List Text → Text → Option (ℕ × ℕ)
share_cut [] from = None
share_cut (percent ∷ []) from = share_numbered (number percent) (number from)
share_cut (percent ∷ more ∷ pieces) from = None

-- `U:W`: so many per cent in each window of so many units or more
abbrev pub asked_share : Text → Option (ℕ × ℕ)
asked_share text = let cut = cut_after 58 text in share_cut cut.pieces cut.rest

-- what a text is read as, if it is a share
abbrev pub ReadsShare : Text → Result AskedShare NotShare → Type 0
ReadsShare text (Ok asked) = asked_share text ≡ Some (shared_of asked.share)
ReadsShare text (Err fault) = asked_share text ≡ None
