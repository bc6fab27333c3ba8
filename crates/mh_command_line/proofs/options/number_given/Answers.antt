use Rattle.std.proofs.Common.{◌∙◌, sym}
use Rattle.clap.proofs.WalkLemmas.{one_text-rows}
use Rattle.clap.specs.Words.{found_of, one_of, rows_of}
use Rattle.mh_command_line.proofs.{NumberLemmas.{number-held, number-lacking}, ReadingLemmas.{is_given, not_given}}
use Rattle.mh_command_line.proofs.options.number_given.Goals as goal

pub returns-in-Some-clause-number : goal.returns-in-Some-clause-number
returns-in-Some-clause-number c =
    let same = one_text-rows (found_of c.args.matches.now) c.args.name.now in
    number-held (one_of c.args.name.now (rows_of (found_of c.args.matches.now))) c.in-Some.number (λ e. c.in-Some.ensures.none (same ∙ e)) (λ t e. c.in-Some.ensures.value t (same ∙ e))

pub returns-in-Some-get_str-clause-fault : goal.returns-in-Some-get_str-clause-fault
returns-in-Some-get_str-clause-fault c =
    let same = one_text-rows (found_of c.args.matches.now) c.args.name.now in
    let given = is_given (found_of c.args.matches.now) c.args.name.now c.in-Some-get_str.text.now (sym c.in-Some-get_str.ensures) in
    (c.requires, number-lacking (one_of c.args.name.now (rows_of (found_of c.args.matches.now))) given.0 given.1 (λ t e. c.in_default.ensures.value t (same ∙ e)))

pub returns-in-None-clause-fault : goal.returns-in-None-clause-fault
returns-in-None-clause-fault c = (c.requires, not_given (found_of c.args.matches.now) c.args.name.now (sym c.in-None.ensures))
