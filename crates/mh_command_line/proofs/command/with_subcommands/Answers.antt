use Rattle.std.proofs.Common.{rules}
use Rattle.mh_command_line.proofs.TableLemmas.{subcommand-more}
use Rattle.mh_command_line.proofs.command.with_subcommands.Goals as goal

pub loop-row-preserved : goal.loop-row-preserved
loop-row-preserved c = subcommand-more _ _ _ _ c.args.rows.now c.loop-row.row-index _ (search rules) c.loop-row.invariant c.in_ok-subcommand.ensures.app (c.in_ok-command.ensures.shape c.in_ok-subcommand.ensures.local)
