-- Texts of logs with an order: what is said of their order is said of them, and of one that is too long the same is found whatever comes after.
use Rattle.std.proofs.Common.{◌≡◌, ◌∙◌, ℕ, ◌<◌, Bool, None, Some, List, ◌++◌, length, ap, refl, subst, sym, length-append, arith}
use Rattle.std.specs.Prelude.{Result}
use Rattle.mh_judge.specs.{Judged.IsVerdictLine, declared.judgement.Judgement.Judgement}
use Rattle.mh_judge.proofs.LongLemmas.{explained_long, line_long, longer}
use Rattle.mh_model.specs.{declared.config.Rules.Rules, declared.history.Verdict.Verdict}
use Rattle.mh_model.specs.{declared.history.Verdict.TheVariants.Refused, Bytes.Text, HistoryTexts.IsJudged}
use Rattle.mh_model.specs.Script.{BadLine, Means}
use Rattle.mh_script.specs.declared.fault.ScriptFault.{ScriptFault}
use Rattle.mh_judge_log.specs.{declared.judgement.JudgedLog.JudgedLog, declared.reason.LogReason.LogReason}
use Rattle.mh_judge_log.specs.{declared.tally.OrderCounts.OrderCounts, declared.timed.Timed.Timed}
use Rattle.mh_judge_log.specs.{Tallies.{counts_of, tally_beside}, Beginnings.BeginsWithCommand, Logs.ordered_reading}
use Rattle.mh_judge_log.specs.Reasons.{IsLogReason}
use Rattle.mh_judge_log.specs.Judgements.{LogJudgement, IsLogExplained, IsLogFault, IsLogTold, found_verdict, verdict_of}
use Rattle.mh_judge_log.specs.{Auxiliary.IsOrderExplained, Orders.{IsLegalOrder, IsLogJudged, IsVerdictOn, entries_of}}
use Rattle.mh_judge_sessions.specs.Full.{looked_through}
use Rattle.mh_judge_log.proofs.LogLemmas.{log_long}

module _ (may_be_full : Bool) (rules : Rules) (text : Text) where
  pub order_judged : (order : List Timed) (verdict : Verdict) → ordered_reading text ≡ Means order → IsJudged (IsLegalOrder may_be_full rules) order verdict → IsLogJudged may_be_full rules text verdict
  order_judged order verdict is judged = rw is judged

  pub line_judged : (line : ℕ) → ordered_reading text ≡ BadLine line → IsLogJudged may_be_full rules text (Refused line)
  line_judged line is = rw is refl

  pub order_explained : (order : List Timed) (found : LogJudgement) → ordered_reading text ≡ Means order → IsOrderExplained may_be_full rules order found → IsLogExplained may_be_full rules text found
  order_explained order (Judgement.Legal count) is explained = tt
  order_explained order (Judgement.Refused line reason) is explained = absurd explained
  order_explained order (Judgement.FirstBad number fault) is explained = (order, is, explained)

  pub order_told : (order : List Timed) (found : LogJudgement) (tally : OrderCounts) → ordered_reading text ≡ Means order → IsOrderExplained may_be_full rules order found → tally ≡ counts_of (looked_through (verdict_of found) (entries_of order))
      → IsLogTold may_be_full rules text (record { judgement = found; tally = Some tally })
  order_told order found tally is explained counts = record {
    explained = order_explained order found is explained;
    tally = ap Some counts ∙ ap (tally_beside (verdict_of found)) (sym is);
  }

  pub line_told : (line : ℕ) (reason : LogReason) → ordered_reading text ≡ BadLine line → IsLogReason text line reason → IsLogTold may_be_full rules text (record { judgement = Judgement.Refused line reason; tally = None })
  line_told line reason is explained = record { explained = explained; tally = ap (tally_beside (Refused line)) (sym is) }

-- the reason of line 0 is that a text is too long, which more bytes don't change
reason_long : (text rest : Text) (of : LogReason) → IsLogReason text 0 of → IsLogReason (text ++ rest) 0 of
reason_long text rest LogReason.TooLong is = (refl, omega (arith, is.1, length-append text rest))
reason_long text rest LogReason.NoOrder is = let numbered = is.0.numbered in cc
reason_long text rest LogReason.CommandsLeft is = let numbered = is.0.numbered in cc
reason_long text rest (LogReason.First r) is = let numbered = is.1.0 in cc
reason_long text rest (LogReason.Line r) is = let numbered = is.2.numbered in cc
reason_long text rest other is = cc

-- what is stated of a text that is too long is stated of a longer one
told_long : (may_be_full : Bool) (rules : Rules) (text rest : Text) (found : JudgedLog) → 2147483648 < length text → found_verdict found ≡ Refused 0 → IsLogTold may_be_full rules text found → IsLogTold may_be_full rules (text ++ rest) found
told_long may_be_full rules text rest found long is told = record {
  explained = explained_long (IsLogReason text) (IsLogReason (text ++ rest)) (IsLogFault may_be_full rules text) (IsLogFault may_be_full rules (text ++ rest)) (reason_long text rest) found.judgement is told.explained;
  tally = told.tally ∙ ap (tally_beside (found_verdict found)) (log_long text long ∙ sym (log_long (text ++ rest) (longer 2147483648 text rest long)));
}

pub log_judged_long : (may_be_full : Bool) (rules : Rules) (text rest : Text) (ended : Result JudgedLog ScriptFault) (out : Text) → 2147483648 < length text
    → IsVerdictLine found_verdict (IsLogJudged may_be_full rules) (IsLogTold may_be_full rules) BeginsWithCommand text ended out
    → IsVerdictLine found_verdict (IsLogJudged may_be_full rules) (IsLogTold may_be_full rules) BeginsWithCommand (text ++ rest) ended out
log_judged_long may_be_full rules text rest ended out long =
    line_long found_verdict (IsLogJudged may_be_full rules) (IsLogTold may_be_full rules) BeginsWithCommand text (text ++ rest) (λ begins. omega (arith, long, begins.short)) (λ found is. subst (λ r. IsVerdictOn may_be_full rules r found) (log_long text long) is)
    (line_judged may_be_full rules (text ++ rest) 0 (log_long (text ++ rest) (longer 2147483648 text rest long))) (λ found is told. told_long may_be_full rules text rest found long is told) ended out
