use Rattle.std.proofs.Common.{◌∙◌, is_some}
use Rattle.clap.proofs.WalkLemmas.{one_text-rows}
use Rattle.clap.specs.Words.{found_of, one_of, rows_of}
use Rattle.mh_command_line.specs.Shares.{ReadsShare, asked_share}
use Rattle.mh_command_line.proofs.ReadingLemmas.{share-can, share-cannot, text-lacking}
use Rattle.mh_command_line.proofs.options.lacks_share.Goals as goal

pub returns : goal.returns
returns c =
    let same = one_text-rows (found_of c.args.matches.now) c.args.name.now in
    c.is_err.ensures.value ∙ text-lacking ReadsShare (λ text. is_some (asked_share text)) share-can share-cannot (one_of c.args.name.now (rows_of (found_of c.args.matches.now))) c.try_get_one.result (λ e. c.try_get_one.ensures.none (same ∙ e)) (λ t e. c.try_get_one.ensures.value t (same ∙ e))
