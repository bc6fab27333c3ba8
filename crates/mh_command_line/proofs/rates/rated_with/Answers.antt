use Rattle.std.proofs.{Common.◌≤◌, lemmas.List.Elements.All-set}
use Rattle.mh_command_line.proofs.rates.rated_with.Goals as goal

pub invariant_of-result-clause-few : goal.invariant_of-result-clause-few
invariant_of-result-clause-few c = All-set (λ parts. parts ≤ 1000000) _ _ _ c.requires.parts.1 c.args.rates.few

pub invariant_of-result-clause-few_units : goal.invariant_of-result-clause-few_units
invariant_of-result-clause-few_units c = All-set (λ units. units ≤ 1000000) _ _ _ c.requires.units.1 c.args.rates.few_units

pub invariant_of-result-clause-some_units : goal.invariant_of-result-clause-some_units
invariant_of-result-clause-some_units c = All-set (λ units. 1 ≤ units) _ _ _ c.requires.units.0 c.args.rates.some_units

pub invariant_of-result-clause-few_bursts : goal.invariant_of-result-clause-few_bursts
invariant_of-result-clause-few_bursts c = All-set (λ burst. burst ≤ 1000000) _ _ _ c.requires.burst c.args.rates.few_bursts
