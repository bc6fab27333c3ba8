use Rattle.std.proofs.Common.{◌≡◌, ◌≤◌, ◌+◌, ◌++◌, length, option_map}
use Rattle.mh_model.specs.Bytes.{numbers}
use Rattle.mh_text.specs.Auxiliary.{text_shown, words_left}
use Rattle.mh_text.proofs.word.numbers.Given as goal

abbrev pub invariant-loop-left : goal.invariant-loop-left
invariant-loop-left l =
    (option_map (λ more. l.found.items ++ more) (numbers (words_left (text_shown l.left))) ≡ numbers (words_left (text_shown l.initial.left)))
    × (length l.found.items + length (words_left (text_shown l.left)) ≡ length (words_left (text_shown l.initial.left)))
    × (length l.found.items ≤ 4)

abbrev pub decreases-loop-left : goal.decreases-loop-left
decreases-loop-left l = length (words_left (text_shown l.left))
