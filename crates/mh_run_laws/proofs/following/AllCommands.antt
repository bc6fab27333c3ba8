-- Each of the twelve commands answers on the pages what it answers on the view, and leaves there what it leaves on the view.
use Rattle.std.proofs.Common.{arith}
use Rattle.mh_model.specs.declared.command.Command.{Command}
use Rattle.mh_run_laws.specs.Following.{CommandsFollow}
use Rattle.mh_run_laws.proofs.following.SlotCommands.{copy-follows, clear-follows, post-follows, take-follows, end-follows, same-follows, shape-follows, read-follows, get-follows}
use Rattle.mh_run_laws.proofs.following.{NewObject.new-follows, WrittenFields.{put-follows, write-follows}}

pub commands-follow : CommandsFollow
commands-follow heap keeping who (Command.New slot references numbers) = new-follows heap keeping who slot references numbers
commands-follow heap keeping who (Command.Get slot source field) = get-follows heap keeping who slot source field
commands-follow heap keeping who (Command.Put slot field value) = put-follows heap keeping who slot field value
commands-follow heap keeping who (Command.Copy slot source) = copy-follows heap keeping who slot source
commands-follow heap keeping who (Command.Clear slot) = clear-follows heap keeping who slot
commands-follow heap keeping who (Command.Read slot index) = read-follows heap keeping who slot index
commands-follow heap keeping who (Command.Write slot index number) = write-follows heap keeping who slot index number
commands-follow heap keeping who (Command.Same left right) = same-follows heap keeping who left right
commands-follow heap keeping who (Command.Shape slot) = shape-follows heap keeping who slot
commands-follow heap keeping who (Command.Post board slot) = post-follows heap keeping who board slot
commands-follow heap keeping who is = grind (arith, take-follows, end-follows)
