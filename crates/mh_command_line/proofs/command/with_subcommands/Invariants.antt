use Rattle.std.proofs.Common.{◌≡◌, fold, map, take}
use Rattle.clap.specs.Words.{app_of}
use Rattle.mh_command_line.specs.{Auxiliary.subcommand_of_row, Table.with_its_app}
use Rattle.mh_command_line.proofs.command.with_subcommands.Given as goal

abbrev pub invariant-loop-row : goal.invariant-loop-row
invariant-loop-row l = app_of l.command ≡ fold with_its_app (app_of l.fn.app) (map subcommand_of_row (take l.row-index l.fn.rows))
