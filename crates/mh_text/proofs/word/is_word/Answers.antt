use Rattle.std.proofs.Common.{length, nat_eq, rules, tests}
use Rattle.std.proofs.lemmas.Iterator.{YieldsList-from_slice, YieldsList-from_zip, same_from_all}
use Rattle.mh_text.proofs.WordLemmas.{same_words}
use Rattle.mh_text.proofs.word.is_word.Goals as goal

pub returns-then-word-other : goal.returns-then-word-other
returns-then-word-other c =
    same_words _ _ _ (same_from_all c.all.new.self _ _ _ _ c.all.ensures.ran (YieldsList-from_zip (YieldsList-from_slice c.args.word.now cc) (YieldsList-from_slice c.args.other.now cc)) (search rules)
    (λ x q k. search (rules, tests)) (λ x q k. search (rules, tests)))

pub returns-else-word-other : goal.returns-else-word-other
returns-else-word-other c = same_words (nat_eq (length c.args.word.now) (length c.args.other.now)) c.args.word.now c.args.other.now (search (rules, tests))
