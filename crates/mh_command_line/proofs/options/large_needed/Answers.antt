use Rattle.std.proofs.Common.{◌∙◌, ap}
use Rattle.std.specs.Prelude.{unwrap_or}
use Rattle.clap.specs.Words.{found_of, one_of, rows_of}
use Rattle.mh_command_line.proofs.ReadingLemmas.{has-number, if_given}
use Rattle.mh_command_line.proofs.options.large_needed.Goals as goal

pub large_number-requires : goal.large_number-requires
large_number-requires c = if_given _ (one_of c.args.name.now (rows_of (found_of c.args.matches.now))) c.requires

pub returns : goal.returns
returns c =
    has-number c.args.least c.args.most c.args.least _ (one_of c.args.name.now (rows_of (found_of c.args.matches.now))) c.requires (c.unwrap_or.ensures ∙ ap (λ o. unwrap_or o c.args.least) c.large_number.ensures.value)
