use Rattle.mh_window_curve.proofs.TallyLemmas.{curve_read, has_read, long_read, judged_read, on_err, takes_read}
use Rattle.mh_window_curve.proofs.drawing.drawn_history.Goals as goal

pub returns-then-not-tally-clause-drawn : goal.returns-then-not-tally-clause-drawn
returns-then-not-tally-clause-drawn c =
    long_read (has_read _ _ _ c.in-Ok-tally_lines.tally c.in-Ok.ensures.lines c.in-Ok-tally_lines.ensures.tally) c.if-not-tally.true

pub returns-in_err-curve-clause-memory : goal.returns-in_err-curve-clause-memory
returns-in_err-curve-clause-memory c = on_err _ (takes_read (has_read _ _ _ c.in-Ok-tally_lines.tally c.in-Ok.ensures.lines c.in-Ok-tally_lines.ensures.tally))

pub returns-clause-drawn : goal.returns-clause-drawn
returns-clause-drawn c =
    let read = has_read _ _ _ c.in-Ok-tally_lines.tally c.in-Ok.ensures.lines c.in-Ok-tally_lines.ensures.tally in
    (judged_read read c.if-not-tally.false c.in-Ok-tally_lines.ensures.bounded _ _ _ c.in_ok-curve.ensures.kept c.judge_promises-judgement.ensures, curve_read read c.if-not-tally.false c.in-Ok-tally_lines.ensures.bounded _ _ c.in_ok-curve.ensures.text)
