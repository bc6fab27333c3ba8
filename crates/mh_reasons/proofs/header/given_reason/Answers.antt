use Rattle.std.proofs.Common.{arith, ◌≡◌, Some, option_and_then, sym, ap, ◌∙◌}
use Rattle.mh_model.specs.{Bytes.numbers, HistoryTexts.header_by}
use Rattle.mh_text.specs.Words.{few_numbers}
use Rattle.mh_reasons.proofs.HeaderLemmas.{four_left, given_outside}
use Rattle.mh_reasons.proofs.header.given_reason.Goals as goal

pub unreachable-requires-in_default-numbers : goal.unreachable-requires-in_default-numbers
unreachable-requires-in_default-numbers c = grind (arith, four_left)

pub returns : goal.returns
returns c =
    let few : few_numbers c.next_number.new.words ≡ Some c.as_slice.result.now = c.in-Some-numbers.ensures.some ∙ ap Some (sym c.as_slice.ensures.value) in
    rw (← c.copy.ensures) (given_outside c.copy.result c.next_number.new.words c.in-Some-next_number.rules c.as_slice.result.now c.outside_limit.result
    c.in_default.ensures.none (ap numbers c.copy.ensures ∙ c.in-Some-next_number.ensures.some) few
    (ap (λ w. option_and_then header_by (numbers w)) c.copy.ensures ∙ c.requires) c.else-rules-ne1.either c.outside_limit.ensures.outside c.outside_limit.ensures.first)
