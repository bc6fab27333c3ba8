use Rattle.std.proofs.Common.{◌∙◌}
use Rattle.mh_command_line.proofs.AskedLemmas.{row_found, row_shown}
use Rattle.mh_command_line.proofs.order.row_among.Goals as goal

pub returns : goal.returns
returns c = row_shown c.row_in.result ∙ row_found c.args.name.now c.args.rows.now _ c.row_in.ensures
