use Rattle.std.proofs.Common.{◌∙◌, is_some}
use Rattle.clap.proofs.WalkLemmas.{one_text-rows}
use Rattle.clap.specs.Words.{found_of, one_of, rows_of}
use Rattle.mh_command_line.specs.Rates.{ReadsRates, rates_in}
use Rattle.mh_command_line.proofs.ReadingLemmas.{rates-can, rates-cannot, text-lacking}
use Rattle.mh_command_line.proofs.options.lacks_rates.Goals as goal

pub returns : goal.returns
returns c =
    let same = one_text-rows (found_of c.args.matches.now) c.args.name.now in
    c.is_err.ensures.value ∙ text-lacking ReadsRates (λ text. is_some (rates_in text)) rates-can rates-cannot (one_of c.args.name.now (rows_of (found_of c.args.matches.now))) c.try_get_one.result (λ e. c.try_get_one.ensures.none (same ∙ e)) (λ t e. c.try_get_one.ensures.value t (same ∙ e))
