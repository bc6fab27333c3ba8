use Rattle.std.proofs.Common.{◌∙◌, sym, rules}
use Rattle.std.specs.Str.{bytes_eq}
use Rattle.mh_command_line.specs.Auxiliary.{SubcommandRow}
use Rattle.mh_command_line.proofs.ReadingLemmas.{find_next}
use Rattle.mh_command_line.proofs.order.row_in.Goals as goal

pub loop-row-preserved : goal.loop-row-preserved
loop-row-preserved c =
    find_next (λ (row : SubcommandRow). bytes_eq row.0.now c.args.name.now) c.args.rows.now c.loop-row.row-index _ (search rules) c.loop-row.invariant (sym c.is_row_of.ensures ∙ c.if-is_row_of.false)
