use Rattle.std.proofs.Common.{arith}
use Rattle.mh_model.proofs.ScriptLemmas.{reading_long}
use Rattle.mh_reasons.proofs.ReadLemmas.{reached_none, reached_after, reached_before, reached_wrong, reached_line, bad_same}
use Rattle.mh_reasons.proofs.script.script_reason.Goals as goal

pub returns-then-text-gt-SCRIPT_BYTES : goal.returns-then-text-gt-SCRIPT_BYTES
returns-then-text-gt-SCRIPT_BYTES c = (bad_same c.args.text.now c.args.line 0 c.requires (reading_long c.args.text.now c.if-text-gt-SCRIPT_BYTES.true), c.if-text-gt-SCRIPT_BYTES.true)

pub loop-number-init : goal.loop-number-init
loop-number-init c = rw c.new-lines.ensures (reached_none c.args.text.now c.args.line (omega arith) c.requires)

pub line_reason-requires : goal.line_reason-requires
line_reason-requires c = reached_wrong c.args.text.now c.args.line _ c.loop-number.lines c.next_line.new.self c.in-Some.number _ c.loop-number.invariant c.in-Some.ensures.next c.if-number-line.true

pub returns-then-number-line : goal.returns-then-number-line
returns-then-number-line c =
    reached_line c.args.text.now c.args.line c.loop-number.configured c.loop-number.lines c.next_line.new.self c.in-Some.number c.in-Some.bytes.now c.line_reason.result
    c.loop-number.invariant c.in-Some.ensures.next c.if-number-line.true c.line_reason.ensures

pub loop-number-preserved-then-configured : goal.loop-number-preserved-then-configured
loop-number-preserved-then-configured c =
    reached_after _ _ _ c.loop-number.lines _ c.in-Some.number c.in-Some.bytes.now c.if-configured.true c.loop-number.invariant c.in-Some.ensures.next c.if-number-line.false

pub loop-number-preserved : goal.loop-number-preserved
loop-number-preserved c = grind (arith, reached_before)
