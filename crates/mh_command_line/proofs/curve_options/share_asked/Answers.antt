use Rattle.std.proofs.Common.{◌≡◌, ◌∙◌, Some, is_some, codes}
use Rattle.clap.proofs.WalkLemmas.{one_text-rows}
use Rattle.clap.specs.Words.{Text, found_of, one_of, rows_of}
use Rattle.mh_command_line.specs.{Shares.{ReadsShare, asked_share, shared_of}, declared.share.AskedShare.AskedShare}
use Rattle.mh_command_line.proofs.ReadingLemmas.{no-text, share-can, share-cannot, text-read}
use Rattle.mh_command_line.proofs.curve_options.share_asked.Goals as goal

pub returns-in-Some : goal.returns-in-Some
returns-in-Some c =
    let same = one_text-rows (found_of c.args.matches.now) (codes "keeps") in
    text-read ReadsShare (λ (text : Text) (asked : AskedShare). asked_share text ≡ Some (shared_of asked.share)) (one_of (codes "keeps") (rows_of (found_of c.args.matches.now))) c.in-Some.asked (λ t is. is)
    (λ e. c.in-Some.ensures.none (same ∙ e)) (λ t e. c.in-Some.ensures.value t (same ∙ e))

pub returns-in-None : goal.returns-in-None
returns-in-None c =
    let same = one_text-rows (found_of c.args.matches.now) (codes "keeps") in
    no-text ReadsShare (λ text. is_some (asked_share text)) share-can share-cannot (one_of (codes "keeps") (rows_of (found_of c.args.matches.now))) (λ t e. c.in-None.ensures.value t (same ∙ e)) c.requires
