-- The numbers by which C knows what a call came to.
use Rattle.std.specs.Prelude.{ℤ, pos}
use Rattle.mh_embed.specs.declared.status.Status.{Status}
use Rattle.mh_embed.specs.declared.status.Status.TheVariants.{Done, Blank, Wrong, Full, NoMemory, Closed, BadConfig, Short, NoText, NoReply, NoItem, NoDeeds, Differs, IsWorld}

-- the number of a status, as the header lists them
abbrev pub code_of : Status → ℤ
code_of Done = pos 0
code_of Blank = pos 1
code_of Wrong = pos 2
code_of Full = pos 3
code_of NoMemory = pos 4
code_of Closed = pos 5
code_of BadConfig = pos 6
code_of Short = pos 7
code_of NoText = pos 8
code_of NoReply = pos 9
code_of NoItem = pos 10
code_of NoDeeds = pos 11
code_of Differs = pos 12
code_of IsWorld = pos 13
