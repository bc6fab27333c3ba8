use Rattle.std.proofs.Common.{sym, ◌∙◌}
use Rattle.mh_history.proofs.KeyedLemmas.{valued_ends, valued_wrong, valued_short}
use Rattle.mh_history.proofs.keyed.values.Goals as goal

pub returns-in_err-next_word-clause-none : goal.returns-in_err-next_word-clause-none
returns-in_err-next_word-clause-none c = rw c.from_residual-in_err-next_word.ensures (valued_ends _ _ _ _ _ _ c.loop-key.invariant c.loop-key-test.true c.in_err-next_word.ensures.end)

pub returns-then-not-is_word-clause-none : goal.returns-then-not-is_word-clause-none
returns-then-not-is_word-clause-none c =
    valued_wrong _ _ _ _ _ _ _ _ _ _ c.loop-key.invariant c.loop-key-test.true c.as_bytes.ensures.value c.in_ok-next_word.ensures.next (sym c.is_word.ensures ∙ c.if-not-is_word.true)

pub returns-in_err-value-2-clause-none : goal.returns-in_err-value-2-clause-none
returns-in_err-value-2-clause-none c =
    rw c.from_residual-in_err-value-2.ensures
    (valued_short _ _ _ _ _ _ _ _ _ _ c.loop-key.invariant c.loop-key-test.true c.as_bytes.ensures.value c.in_ok-next_word.ensures.next (sym c.is_word.ensures ∙ c.if-not-is_word.false) c.in_err-value-2.ensures.end)
