use Rattle.std.proofs.Common.{arith, sym, ◌∙◌}
use Rattle.mh_history.proofs.PartLemmas.{texts_ended, texts_wrong, texts_next}
use Rattle.mh_history.proofs.parts.are_words.Goals as goal

pub returns-in_default : goal.returns-in_default
returns-in_default c = texts_ended _ _ _ _ c.loop-text.invariant c.loop-text-test.true c.in_default.ensures.end

pub returns-then-not-is_word : goal.returns-then-not-is_word
returns-then-not-is_word c =
    texts_wrong _ _ _ _ _ _ _ _ c.loop-text.invariant c.loop-text-test.true c.as_bytes.ensures.value c.in-Some.ensures.next (sym c.is_word.ensures ∙ c.if-not-is_word.true)

pub loop-text-preserved : goal.loop-text-preserved
loop-text-preserved c = grind (arith, texts_next)
