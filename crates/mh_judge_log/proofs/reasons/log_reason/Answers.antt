use Rattle.std.proofs.{Common.{◌≡◌, ◌==◌, ◌∙◌, ap, false, length, sym, true, arith}, lemmas.Bool.Decides.nat_tests}
use Rattle.std.proofs.lemmas.List.{nil_from_length}
use Rattle.mh_text.specs.Pieces.{Lines, TakesLine, lines_from}
use Rattle.mh_judge_log.proofs.ReasonLemmas.{bad_command, cut_reason, empty_reason, told_first, long_reason, passed_first, passed_more, told_line}
use Rattle.mh_judge_log.proofs.reasons.log_reason.Goals as goal

pub returns-then-text-gt-RECORD_BYTES : goal.returns-then-text-gt-RECORD_BYTES
returns-then-text-gt-RECORD_BYTES c = long_reason c.args.text.now c.args.line c.requires c.if-text-gt-RECORD_BYTES.true

pub returns-then-is_empty : goal.returns-then-is_empty
returns-then-is_empty c =
    let is : (length c.args.text.now == 0) ≡ true = sym c.if-is_empty.ensures in
    empty_reason c.args.text.now c.args.line c.requires c.if-text-gt-RECORD_BYTES.false (nil_from_length c.args.text.now (grind (arith, nat_tests, is)))

pub returns-in_default : goal.returns-in_default
returns-in_default c =
    let is : (length c.args.text.now == 0) ≡ false = sym c.if-is_empty.ensures in
    cut_reason c.args.text.now c.args.line c.requires c.if-text-gt-RECORD_BYTES.false (ap (λ (l : Lines). l.lines) (sym c.new-lines.ensures) ∙ c.in_default.ensures.end)
    (λ none. absurd (grind (arith, nat_tests, is, ap length none)))

pub returns-then-not-is_word : goal.returns-then-not-is_word
returns-then-not-is_word c =
    let takes : TakesLine (lines_from 1 c.args.text.now) c.next_line.new.self c.in-Some.field-0-0 c.in-Some.first.now = rw c.new-lines.ensures at c.in-Some.ensures.next in
    told_first c.args.text.now c.args.line c.requires c.if-text-gt-RECORD_BYTES.false _ _ _ _ takes (sym c.is_word.ensures ∙ c.if-not-is_word.true) c.first_reason.ensures

pub loop-number-init : goal.loop-number-init
loop-number-init c =
    let takes : TakesLine (lines_from 1 c.args.text.now) c.next_line.new.self c.in-Some.field-0-0 c.in-Some.first.now = rw c.new-lines.ensures at c.in-Some.ensures.next in
    passed_first c.args.text.now c.args.line _ _ _ c.if-text-gt-RECORD_BYTES.false takes (sym c.is_word.ensures ∙ c.if-not-is_word.false) c.requires

pub line_reason-requires : goal.line_reason-requires
line_reason-requires c =
    bad_command c.args.line c.loop-number.lines _ c.in-Some-next_line.number c.in-Some-next_line.bytes.now c.in-Some-next_line.ensures.next c.if-number-line.true c.args.text.now c.loop-number.in_order c.loop-number.invariant

pub returns-then-number-line : goal.returns-then-number-line
returns-then-number-line c =
    told_line c.args.text.now c.args.line c.loop-number.in_order c.loop-number.lines _ c.in-Some-next_line.number c.in-Some-next_line.bytes.now c.line_reason.result c.in-Some-next_line.ensures.next c.if-number-line.true
    c.loop-number.invariant c.line_reason.ensures

pub loop-number-preserved : goal.loop-number-preserved
loop-number-preserved c =
    rw c.is_word-in_order.ensures
    (passed_more c.args.line c.loop-number.lines _ c.in-Some-next_line.number c.in-Some-next_line.bytes.now c.in-Some-next_line.ensures.next c.if-number-line.false c.args.text.now c.loop-number.in_order c.loop-number.invariant)
