use Rattle.std.proofs.Common.{◌∙◌, ap}
use Rattle.std.specs.Prelude.{unwrap_or}
use Rattle.clap.specs.Words.{found_of, one_of, rows_of}
use Rattle.mh_command_line.proofs.ReadingLemmas.{has-number, if_given}
use Rattle.mh_command_line.proofs.options.needed.Goals as goal

pub number-requires : goal.number-requires
number-requires c = if_given _ (one_of c.args.name.now (rows_of (found_of c.args.matches.now))) c.requires

pub returns-clause-value : goal.returns-clause-value
returns-clause-value c =
    has-number c.args.least c.args.most c.args.least _ (one_of c.args.name.now (rows_of (found_of c.args.matches.now))) c.requires (c.unwrap_or.ensures ∙ ap (λ o. unwrap_or o c.args.least) c.number.ensures.value)
