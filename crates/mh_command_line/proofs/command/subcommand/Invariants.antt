use Rattle.std.proofs.Common.{◌≡◌, false, map, take}
use Rattle.clap.specs.{Words.app_of, declared.builder.command.Command.TheViews.out-Command}
use Rattle.mh_command_line.specs.{Table.app_with, Auxiliary.choice_of}
use Rattle.mh_command_line.proofs.command.subcommand.Given as goal

abbrev pub invariant-loop-row : goal.invariant-loop-row
invariant-loop-row l = (app_of l.command ≡ app_with l.fn.row.0.now (map choice_of (take l.row-index l.fn.row.4.now))) × ((out-Command l.command).has_globals ≡ false)
