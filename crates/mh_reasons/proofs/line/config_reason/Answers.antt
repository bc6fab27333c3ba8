use Rattle.std.proofs.Common.{◌≡◌, Some, ◌∷◌, length, sym, ap, ◌∙◌, arith}
use Rattle.mh_model.specs.declared.history.Version.TheVariants.{Two}
use Rattle.mh_text.specs.Words.{few_numbers}
use Rattle.mh_reasons.proofs.WordLemmas.{spread, config_usage, config_unfit, limit}
use Rattle.mh_reasons.specs.declared.verb.Verb.{Verb}
use Rattle.mh_reasons.proofs.line.config_reason.Goals as goal

pub operands_reason-requires : goal.operands_reason-requires
operands_reason-requires c = config_unfit c.args.words (ap few_numbers (sym c.copy-3.ensures) ∙ c.in_default-numbers.ensures.none)

pub returns-in_default-numbers : goal.returns-in_default-numbers
returns-in_default-numbers c = spread Two _ (c.args.first.now ∷ c.args.words) c.args.words Verb.Config _ (config_usage c.args.first.now c.args.words (sym c.if-not-is_word.ensures)) c.operands_reason.ensures

pub returns-in-len4 : goal.returns-in-len4
returns-in-len4 c =
    let count : length c.as_slice.result.now ≡ 4 = omega arith in
    let few : few_numbers c.args.words ≡ Some c.as_slice.result.now = ap few_numbers (sym c.copy-3.ensures) ∙ (c.in-Some-numbers.ensures.some ∙ ap Some (sym c.as_slice.ensures.value)) in
    limit c.args.first.now c.args.words c.as_slice.result.now _ c.requires (sym c.if-not-is_word.ensures) few count c.outside_limit.ensures.outside c.outside_limit.ensures.first

pub returns-in_default-as_slice : goal.returns-in_default-as_slice
returns-in_default-as_slice c = spread Two _ (c.args.first.now ∷ c.args.words) c.args.words Verb.Config _ (config_usage c.args.first.now c.args.words (sym c.if-not-is_word.ensures)) c.operands_reason-in_default-as_slice.ensures
