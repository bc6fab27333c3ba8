use Rattle.std.proofs.{Common.{List, ◌∷◌, ◌++◌, []}, lemmas.Result.on_ok_weaker}
use Rattle.mh_model.specs.declared.history.Measured.{Measured}
use Rattle.mh_window_curve.specs.Auxiliary.{IsTallyOf, IsTraceIf}
use Rattle.mh_window_curve.proofs.TallyLemmas.{tally_more}
use Rattle.mh_window_curve.proofs.tally.Tally.add.Goals as goal

pub returns-clause-tally : goal.returns-clause-tally
returns-clause-tally c =
    on_ok_weaker {Q = (entries : List Measured) → IsTallyOf entries c.args.self.now → IsTraceIf c.args.self.now.is_short (entries ++ c.args.measured.now ∷ []) c.extend.new.trace.trace} c.extend.result
    (λ extends entries is. tally_more entries _ _ _ _ c.if-not-self.false extends is) c.extend.ensures.trace
