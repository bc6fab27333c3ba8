use Rattle.std.proofs.{Common.{map, rules}, lemmas.List.map-append}
use Rattle.std.specs.String.{string_bytes}
use Rattle.mh_command_line.proofs.WordLemmas.{all_read, none_read, one_read}
use Rattle.mh_command_line.proofs.words.words.Goals as goal

pub loop-index-init : goal.loop-index-init
loop-index-init g c = none_read _ _ (search rules)

pub returns-in_default-2-clause-words : goal.returns-in_default-2-clause-words
returns-in_default-2-clause-words g c = all_read _ _ _ c.loop-index.invariant (rw c.in_default-2.is at c.in_ok-word.ensures.word)

pub loop-index-preserved : goal.loop-index-preserved
loop-index-preserved g c = one_read _ _ (map string_bytes c.loop-index.words.items) _ (string_bytes c.in-Some.word) c.loop-index.auto.index c.loop-index.invariant (rw c.in-Some.is at c.in_ok-word.ensures.word) (search (rules, map-append))
