use Rattle.std.proofs.Common.{sym, ◌∙◌}
use Rattle.mh_history.proofs.PartLemmas.{sessions_refused}
use Rattle.mh_history.proofs.parts.refusal_of.Goals as goal

pub returns-then-is_word-7 : goal.returns-then-is_word-7
returns-then-is_word-7 c =
    let is = sessions_refused c.in_ok-number.number.now c.next_word.new.self (sym c.is_word-else-is_word-6.ensures ∙ c.if-is_word-7.true) in
    rw c.in_ok-number.ensures.next (c.where_words-then-is_word-7.ensures ∙ sym is)
