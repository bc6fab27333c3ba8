use Rattle.std.proofs.Common.{rules}
use Rattle.mh_command_line.proofs.TableLemmas.{option-more}
use Rattle.mh_command_line.proofs.command.subcommand.Goals as goal

pub loop-row-preserved : goal.loop-row-preserved
loop-row-preserved c = (option-more _ _ _ _ c.args.row.now.4.now c.loop-row.row-index _ (search rules) c.loop-row.invariant.0 c.option.ensures.rule (c.in_ok-command.ensures.shape c.option.ensures.local), search rules)
