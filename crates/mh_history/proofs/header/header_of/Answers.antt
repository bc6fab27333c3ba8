use Rattle.std.proofs.Common.{sym, ◌∙◌}
use Rattle.mh_history.proofs.HeaderLemmas.{header_none}
use Rattle.mh_history.proofs.header.header_of.Goals as goal

pub returns-in_err-numbers : goal.returns-in_err-numbers
returns-in_err-numbers c =
    c.from_residual-in_err-numbers.ensures
    ∙ sym (header_none _ _ _ _ _ _ _ _ _ _ c.in_ok-first.ensures.next c.in_ok-second.ensures.next c.in_ok-third.ensures.next c.in_ok-next_word.ensures.next (sym c.is_word.ensures ∙ c.if-not-is_word.false)
    (sym c.is_word-else-not-is_word.ensures ∙ c.if-not-is_word-2.false) (sym c.is_word-else-not-is_word-2.ensures ∙ c.if-not-is_word-3.false) (sym c.in_ok-rules.ensures) c.in_err-numbers.ensures.none)
