use Rattle.std.proofs.Common.{◌∙◌}
use Rattle.clap.proofs.WalkLemmas.{one_text-rows}
use Rattle.clap.specs.Words.{found_of, one_of, rows_of}
use Rattle.mh_command_line.proofs.ReadingLemmas.{flag-read}
use Rattle.mh_command_line.proofs.options.is_flagged.Goals as goal

pub returns : goal.returns
returns c =
    let same = one_text-rows (found_of c.args.matches.now) c.args.name.now in
    c.unwrap_or.ensures ∙ flag-read _ (one_of c.args.name.now (rows_of (found_of c.args.matches.now))) c.get_one.result (λ e. c.get_one.ensures.none (same ∙ e)) (λ t e. c.get_one.ensures.value t (same ∙ e))
