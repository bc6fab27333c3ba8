use Rattle.std.proofs.Common.{sym, ◌∙◌}
use Rattle.mh_history.proofs.HistoryLemmas.{begins_with_entry}
use Rattle.mh_history.proofs.history.history_lines.Goals as goal

pub returns-clause-begins : goal.returns-clause-begins
returns-clause-begins c =
    let first = rw c.new-lines.ensures at c.in-Some.ensures.next in
    begins_with_entry _ _ _ _ c.if-text-gt-HISTORY_BYTES.false first (sym c.is_word.ensures ∙ c.if-not-is_word.false)
