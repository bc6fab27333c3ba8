use Rattle.std.proofs.{Common.{◌≡◌, ◌==◌, false, length, sym, arith}, lemmas.Bool.Decides.nat_tests}
use Rattle.mh_window_pauses.proofs.ReasonLemmas.{reached_bad, reached_begun, reached_first, reached_line, too_many}
use Rattle.mh_window_pauses.proofs.reasons.pause_reason.Goals as goal

pub returns-then-line-eq0 : goal.returns-then-line-eq0
returns-then-line-eq0 c =
    let full : (length c.args.text.now == 0) ≡ false = sym c.if-is_empty.ensures in
    (c.if-line-eq0.true, too_many c.args.text.now (rw c.if-line-eq0.true at c.requires) c.if-text-gt-RECORD_BYTES.false (λ none. grind (arith, nat_tests)))

pub line_reason-requires : goal.line_reason-requires
line_reason-requires c = reached_bad c.args.text.now c.args.line _ _ _ _ c.in-Some.ensures.next _ c.loop-number.invariant c.if-number-line.true

pub returns-then-number-line : goal.returns-then-number-line
returns-then-number-line c = reached_line c.args.text.now c.args.line _ _ _ _ c.in-Some.ensures.next _ _ c.loop-number.invariant c.if-number-line.true c.line_reason.ensures

pub loop-number-preserved-then-begun : goal.loop-number-preserved-then-begun
loop-number-preserved-then-begun c = reached_begun c.args.text.now c.args.line _ _ _ _ c.in-Some.ensures.next _ c.if-begun.true c.loop-number.invariant c.if-number-line.false

pub loop-number-preserved : goal.loop-number-preserved
loop-number-preserved c = reached_first c.args.text.now c.args.line _ _ _ _ c.in-Some.ensures.next _ _ c.if-begun.false c.is_blank.ensures c.loop-number.invariant c.if-number-line.false
