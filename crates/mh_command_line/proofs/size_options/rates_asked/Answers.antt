use Rattle.std.proofs.{Common.{◌≡◌, ◌∙◌, Some, ap, is_some, codes, sym}, lemmas.Bool.false≢true}
use Rattle.clap.proofs.WalkLemmas.{one_text-rows}
use Rattle.clap.specs.Words.{Text, found_of, one_of, rows_of}
use Rattle.mh_command_line.specs.{Rates.{ReadsRates, rated_of, rates_in}, declared.rates.AskedRates.AskedRates}
use Rattle.mh_command_line.proofs.AskedLemmas.{rate_of_heap, rates_kept}
use Rattle.mh_command_line.proofs.ReadingLemmas.{no-text, rates-can, rates-cannot, text-read}
use Rattle.mh_command_line.proofs.size_options.rates_asked.Goals as goal

pub returns : goal.returns
returns c =
    let same = one_text-rows (found_of c.args.matches.now) (codes "rate") in
    text-read ReadsRates (λ (text : Text) (asked : AskedRates). rates_in text ≡ Some (rated_of asked.rates)) (one_of (codes "rate") (rows_of (found_of c.args.matches.now))) c.in-Some.asked (λ t is. is)
    (λ e. c.in-Some.ensures.none (same ∙ e)) (λ t e. c.in-Some.ensures.value t (same ∙ e))

pub unreachable-requires : goal.unreachable-requires
unreachable-requires c =
    let same = one_text-rows (found_of c.args.matches.now) (codes "rate") in
    let rows = rows_of (found_of c.args.matches.now) in
    let none = no-text ReadsRates (λ text. is_some (rates_in text)) rates-can rates-cannot (one_of (codes "rate") rows) (λ t e. c.in-None.ensures.value t (same ∙ e)) (rates_kept rows c.requires.meets c.requires.used) in
    false≢true (sym (ap is_some none) ∙ rate_of_heap rows c.requires.meets c.requires.used)
