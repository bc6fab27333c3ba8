use Rattle.std.proofs.Common.{◌≡◌, ◌+◌, ◌<◌, ◌^◌, drop}
use Rattle.std.specs.List.{prefix_len, take_while}
use Rattle.mh_model.specs.Bytes.{is_digit, value_after}
use Rattle.mh_text.proofs.word.digits_after.Given as goal

abbrev pub invariant-loop-count : goal.invariant-loop-count
invariant-loop-count l =
    (value_after l.value (take_while is_digit (drop l.count l.text)) ≡ value_after l.initial.value (take_while is_digit l.text))
    × (l.count + prefix_len is_digit (drop l.count l.text) ≡ prefix_len is_digit l.text)
    × (l.value < 2 ^ 64)
