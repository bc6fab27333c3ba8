use Rattle.mh_command_line.proofs.NumberLemmas.{digits-back, digits-from}
use Rattle.std.proofs.Common.{◌<◌, length, rules}
use Rattle.std.specs.Str.Parse.{without_leading_plus}
use Rattle.mh_command_line.proofs.options.is_number.Goals as goal

pub returns-then-not-is_empty : goal.returns-then-not-is_empty
returns-then-not-is_empty c =
    let some : 0 < length (without_leading_plus c.args.text.now) = search rules in
    (λ all. (some, digits-from _ (search (rules, all))), λ is. search (rules, digits-back _ is.1))
