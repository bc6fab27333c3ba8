-- Judgements on logs with an order, and what calls that judge them have written.
use Rattle.std.specs.Prelude.{◌≡◌, ℕ, Bool, List, Result}
use Rattle.mh_model.specs.{declared.config.Rules.Rules, declared.history.Verdict.Verdict, Bytes.Text, Script.Means}
use Rattle.mh_judge.specs.{Judged.IsVerdictLine, declared.judgement.Judgement.Judgement, Judgements.IsExplained}
pub use Rattle.mh_judge.specs.Judgements.{verdict_of}
use Rattle.mh_text.specs.Devices.{Device}
use Rattle.mh_script.specs.{declared.fault.ScriptFault.ScriptFault, Tasks.IsDone}
use Rattle.mh_judge_log.specs.{declared.fault.OrderFault.OrderFault, declared.judgement.JudgedLog.JudgedLog}
use Rattle.mh_judge_log.specs.{declared.reason.LogReason.LogReason, Tallies.tally_beside, declared.timed.Timed.Timed}
use Rattle.mh_judge_log.specs.{Beginnings.BeginsWithCommand, Faults.IsOrderFault, Logs.ordered_reading}
use Rattle.mh_judge_log.specs.{Orders.IsLogJudged, Reasons.IsLogReason}

-- a judgement on a log
abbrev pub LogJudgement : Type 0
LogJudgement = Judgement LogReason OrderFault

-- a fault of the entry with this number in the order of a text
abbrev pub IsLogFault : Bool → Rules → Text → ℕ → OrderFault → Type 0
IsLogFault may_be_full rules text number fault = (order : List Timed) × (ordered_reading text ≡ Means order) × IsOrderFault may_be_full rules order number fault

-- what a judgement says of a text beside the verdict is true: the reason of its bad line, and what is wrong with its first bad entry
abbrev pub IsLogExplained : Bool → Rules → Text → LogJudgement → Type 0
IsLogExplained may_be_full rules text = IsExplained (IsLogReason text) (IsLogFault may_be_full rules text)

-- the verdict of what is found
abbrev pub found_verdict : JudgedLog → Verdict
found_verdict found = verdict_of found.judgement

-- What is stated of a text beside the verdict is true, and the tally is of what was looked through
pub record IsLogTold (may_be_full : Bool) (rules : Rules) (text : Text) (found : JudgedLog) : Type 0 where
  pub explained : IsLogExplained may_be_full rules text found.judgement
  pub tally : found.tally ≡ tally_beside (found_verdict found) (ordered_reading text)

-- A log with an order was judged, by whether a heap may be full, and how that ended
abbrev pub IsLogJudging : Bool → Rules → (source source' sink sink' : Device) → Result JudgedLog ScriptFault → Type 0
IsLogJudging may_be_full rules = IsDone (IsVerdictLine found_verdict (IsLogJudged may_be_full rules) (IsLogTold may_be_full rules) BeginsWithCommand) 2147483648
