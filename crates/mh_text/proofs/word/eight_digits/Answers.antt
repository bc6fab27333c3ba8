use Rattle.std.proofs.{Common.{◌∙◌, arith}, lemmas.List.take_rest}
use Rattle.mh_text.proofs.DigitLemmas.{value_step}
use Rattle.mh_text.proofs.word.eight_digits.Goals as goal

pub returns-clause-value : goal.returns-clause-value
returns-clause-value c =
    let text = c.args.text.now in
    let long = c.in-len8-up.len_at_least in
    let two =
    value_step 0 _ 0 text (omega (arith, long)) c.in_ok-with_digit.ensures.value c.in_ok-with_digit.ensures.digit
    ∙ value_step _ _ 1 text (omega (arith, long)) c.in_ok-two.ensures.value c.in_ok-two.ensures.digit in
    let four =
    value_step _ _ 2 text (omega (arith, long)) c.in_ok-with_digit-2.ensures.value c.in_ok-with_digit-2.ensures.digit
    ∙ value_step _ _ 3 text (omega (arith, long)) c.in_ok-four.ensures.value c.in_ok-four.ensures.digit in
    let six =
    value_step _ _ 4 text (omega (arith, long)) c.in_ok-with_digit-3.ensures.value c.in_ok-with_digit-3.ensures.digit
    ∙ value_step _ _ 5 text (omega (arith, long)) c.in_ok-six.ensures.value c.in_ok-six.ensures.digit in
    let eight =
    value_step _ _ 6 text (omega (arith, long)) c.in_ok-with_digit-4.ensures.value c.in_ok-with_digit-4.ensures.digit
    ∙ value_step _ _ 7 text (omega (arith, long)) c.in_ok-eight.ensures.value c.in_ok-eight.ensures.digit in
    rw take_rest (two ∙ (four ∙ (six ∙ eight)))
