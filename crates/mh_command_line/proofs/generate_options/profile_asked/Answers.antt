use Rattle.std.proofs.Common.{◌∙◌, codes}
use Rattle.clap.proofs.WalkLemmas.{one_text-rows}
use Rattle.clap.specs.Words.{found_of, one_of, rows_of}
use Rattle.mh_orders.specs.Profiles.{NamesProfile}
use Rattle.mh_command_line.specs.Values.{names_one}
use Rattle.mh_command_line.proofs.ReadingLemmas.{no-text, profile-can, profile-cannot, profile-mixed, profile-read}
use Rattle.mh_command_line.proofs.generate_options.profile_asked.Goals as goal

pub returns-in-Some : goal.returns-in-Some
returns-in-Some c =
    let same = one_text-rows (found_of c.args.matches.now) (codes "profile") in
    profile-read (one_of (codes "profile") (rows_of (found_of c.args.matches.now))) c.in-Some.profile (λ e. c.in-Some.ensures.none (same ∙ e)) (λ t e. c.in-Some.ensures.value t (same ∙ e))

pub returns-in-None : goal.returns-in-None
returns-in-None c =
    let same = one_text-rows (found_of c.args.matches.now) (codes "profile") in
    profile-mixed _ (no-text NamesProfile names_one profile-can profile-cannot (one_of (codes "profile") (rows_of (found_of c.args.matches.now))) (λ t e. c.in-None.ensures.value t (same ∙ e)) c.requires)
