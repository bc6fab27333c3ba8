use Rattle.std.proofs.Common.{◌∙◌, List, ap, codes, fold, map}
use Rattle.clap.specs.Words.{App, new_app}
use Rattle.mh_command_line.specs.Table.{Subcommand, finished_app, first_subcommands, with_its_app}
use Rattle.mh_command_line.specs.Auxiliary.{subcommand_of_row}
use Rattle.mh_command_line.proofs.command.command.Goals as goal

pub returns : goal.returns
returns c =
    let with_first : List Subcommand → App = λ rows. fold with_its_app (new_app (codes "metroheap")) rows in
    let with_last : List Subcommand → App = λ rows. fold with_its_app (with_first first_subcommands) rows in
    let first = c.in_ok-first.ensures ∙ ap (λ app. fold with_its_app app (map subcommand_of_row c.first_subcommands.result.now)) c.new.ensures.app ∙ ap with_first c.first_subcommands.ensures in
    c.finished.ensures ∙ ap finished_app (c.in_ok-all.ensures ∙ ap (λ app. fold with_its_app app (map subcommand_of_row c.last_subcommands.result.now)) first ∙ ap with_last c.last_subcommands.ensures)
