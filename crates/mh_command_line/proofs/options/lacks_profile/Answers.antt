use Rattle.std.proofs.Common.{◌∙◌}
use Rattle.clap.proofs.WalkLemmas.{one_text-rows}
use Rattle.clap.specs.Words.{found_of, one_of, rows_of}
use Rattle.mh_orders.specs.Profiles.{NamesProfile}
use Rattle.mh_command_line.specs.Values.{names_one}
use Rattle.mh_command_line.proofs.ReadingLemmas.{profile-can, profile-cannot, text-lacking}
use Rattle.mh_command_line.proofs.options.lacks_profile.Goals as goal

pub returns : goal.returns
returns c =
    let same = one_text-rows (found_of c.args.matches.now) c.args.name.now in
    c.is_err.ensures.value ∙ text-lacking NamesProfile names_one profile-can profile-cannot (one_of c.args.name.now (rows_of (found_of c.args.matches.now))) c.try_get_one.result (λ e. c.try_get_one.ensures.none (same ∙ e)) (λ t e. c.try_get_one.ensures.value t (same ∙ e))
