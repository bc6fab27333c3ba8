use Rattle.std.proofs.{Common.{◌≤◌, true, false, length, arith}, lemmas.Bool.Decides.nat_tests}
use Rattle.std.proofs.lemmas.List.{nil_from_length}
use Rattle.mh_text.specs.Pieces.{TakesLine, lines_from}
use Rattle.mh_reasons.specs.HistoryReasons.{most_bytes}
use Rattle.mh_reasons.proofs.HistoryLemmas.{long_bad, empty_bad, no_line, wrong_first, told_first, entered_none, entered_wrong, entered_line, entered_more}
use Rattle.mh_reasons.proofs.history.history_reason.Goals as goal

pub returns-then-text-most_bytes : goal.returns-then-text-most_bytes
returns-then-text-most_bytes c = grind (arith, long_bad)

pub returns-then-is_empty : goal.returns-then-is_empty
returns-then-is_empty c = grind (arith, nil_from_length, nat_tests, empty_bad)

pub returns-in_default : goal.returns-in_default
returns-in_default c = grind (arith, no_line, nat_tests)

pub first_line_reason-requires : goal.first_line_reason-requires
first_line_reason-requires c = grind (arith, wrong_first)

pub returns-then-line-eq1 : goal.returns-then-line-eq1
returns-then-line-eq1 c =
    let takes : TakesLine (lines_from 1 c.args.text.now) c.next_line.new.self c.in-Some.field-0-0 c.in-Some.first.now = rw c.new-lines.ensures at c.in-Some.ensures.next in
    told_first c.args.version c.args.text.now c.args.line _ _ _ c.first_line_reason.result takes c.if-line-eq1.true c.first_line_reason.ensures

pub loop-number-init : goal.loop-number-init
loop-number-init c =
    let short : length c.args.text.now ≤ most_bytes c.args.version = rw (← c.most_bytes.ensures) c.if-text-most_bytes.false in
    let takes : TakesLine (lines_from 1 c.args.text.now) c.next_line.new.self c.in-Some.field-0-0 c.in-Some.first.now = rw c.new-lines.ensures at c.in-Some.ensures.next in
    entered_none c.args.version c.args.text.now c.args.line _ _ _ short c.requires takes c.if-line-eq1.false

pub entry_line_reason-requires : goal.entry_line_reason-requires
entry_line_reason-requires c =
    entered_wrong c.args.version c.args.text.now c.args.line c.loop-number.lines _ c.in-Some-next_line.number c.in-Some-next_line.bytes.now c.loop-number.invariant c.in-Some-next_line.ensures.next c.if-number-line.true

pub returns-then-number-line : goal.returns-then-number-line
returns-then-number-line c =
    entered_line c.args.version c.args.text.now c.args.line c.loop-number.lines _ c.in-Some-next_line.number c.in-Some-next_line.bytes.now c.entry_line_reason.result
    c.loop-number.invariant c.in-Some-next_line.ensures.next c.if-number-line.true c.entry_line_reason.ensures

pub loop-number-preserved : goal.loop-number-preserved
loop-number-preserved c =
    entered_more c.args.version c.args.text.now c.args.line c.loop-number.lines _ c.in-Some-next_line.number c.in-Some-next_line.bytes.now c.loop-number.invariant c.in-Some-next_line.ensures.next c.if-number-line.false
