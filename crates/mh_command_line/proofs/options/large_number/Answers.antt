use Rattle.std.proofs.Common.{◌∙◌, rules, sym, subst}
use Rattle.std.specs.Prelude.{Option, IfSome, ◌≤◌, ℕ}
use Rattle.std.specs.Str.Parse.{ParsesUnsigned, ExplainsUnsignedError, HasUnsignedDigitsIfOk}
use Rattle.clap.proofs.WalkLemmas.{one_text-rows}
use Rattle.clap.specs.Words.{found_of, one_of, rows_of}
use Rattle.mh_command_line.proofs.ReadingLemmas.{is-within, optional-read}
use Rattle.mh_command_line.proofs.options.large_number.Goals as goal

pub returns-clause-value : goal.returns-clause-value
returns-clause-value c =
    let same = one_text-rows (found_of c.args.matches.now) c.args.name.now in
    optional-read 64 (λ text r. ParsesUnsigned 64 10 text r × ExplainsUnsignedError 10 text r × HasUnsignedDigitsIfOk text r) (λ text r gives. gives.0)
    c.args.least c.args.most (one_of c.args.name.now (rows_of (found_of c.args.matches.now))) c.get_one.result (search rules) c.requires (λ e. c.get_one.ensures.none (same ∙ e)) (λ t e. c.get_one.ensures.value t (same ∙ e))

pub returns-clause-within : goal.returns-clause-within
returns-clause-within c =
    let P : Option ℕ → Type 0 = λ o. IfSome o (λ n. (c.args.least ≤ n) × (n ≤ c.args.most)) in
    subst P (sym (returns-clause-value c)) (is-within c.args.least c.args.most (one_of c.args.name.now (rows_of (found_of c.args.matches.now))) c.requires)
