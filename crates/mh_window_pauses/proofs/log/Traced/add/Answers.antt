use Rattle.std.proofs.{Common.{List, ◌∷◌, ◌++◌, []}, lemmas.Result.on_ok_weaker}
use Rattle.mh_window_pauses.specs.{declared.line.PauseLine.PauseLine, Auxiliary.{IsTraceIf, IsTraceOf}}
use Rattle.mh_window_pauses.proofs.LogLemmas.{blank_added, none_added, not_short, run_added, too_many_added}
use Rattle.mh_window_pauses.proofs.log.Traced.add.Goals as goal

pub returns-in_default-clause-trace : goal.returns-in_default-clause-trace
returns-in_default-clause-trace c = blank_added c.args.self.now c.args.line c.in_default.not-Run

pub returns-then-not-self-clause-trace : goal.returns-then-not-self-clause-trace
returns-then-not-self-clause-trace c = none_added c.args.self.now c.args.line c.if-not-self.true

pub returns-then-not-is_short_with-clause-trace : goal.returns-then-not-is_short_with-clause-trace
returns-then-not-is_short_with-clause-trace c =
    too_many_added c.args.self.now c.args.line c.in-Run.unit c.in-Run.count c.in-Run.is c.if-not-self.false (not_short _ _ c.is_short_with.ensures c.if-not-is_short_with.true)

pub returns-clause-trace : goal.returns-clause-trace
returns-clause-trace c =
    on_ok_weaker {Q = (lines : List PauseLine) → IsTraceOf lines c.args.self.now → IsTraceIf c.args.self.now.is_short (lines ++ c.args.line ∷ []) c.extend.new.trace.trace} c.extend.result
    (λ added. run_added c.args.self.now c.args.line c.in-Run.unit c.in-Run.count c.extend.new.trace.trace c.in-Run.is c.if-not-self.false added) c.extend.ensures.letters
