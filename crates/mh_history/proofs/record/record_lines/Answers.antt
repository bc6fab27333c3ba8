use Rattle.std.proofs.Common.{arith, sym}
use Rattle.mh_history.proofs.HistoryLemmas.{begins_with_measured, record_first}
use Rattle.mh_history.proofs.record.record_lines.Goals as goal

pub returns-clause-lines : goal.returns-clause-lines
returns-clause-lines c = grind (arith, record_first)

pub returns-clause-begins : goal.returns-clause-begins
returns-clause-begins c =
    let first = rw c.new-lines.ensures at c.in-Some.ensures.next in
    let header = rw c.new.ensures at (sym c.in-Some-header_of.ensures) in
    begins_with_measured _ _ _ _ _ c.if-text-gt-RECORD_BYTES.false first header
