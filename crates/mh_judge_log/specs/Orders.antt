-- Legal orders of the commands of threads.
use Rattle.std.specs.Prelude.{◌≡◌, Bool, List, map}
use Rattle.mh_model.specs.{declared.config.Rules.Rules, declared.history.Entry.Entry, declared.history.Verdict.Verdict}
use Rattle.mh_model.specs.{declared.history.Verdict.TheVariants.Refused, Bytes.Text, HistoryTexts.IsJudged}
use Rattle.mh_model.specs.Script.{Reading, BadLine, Means}
use Rattle.mh_judge_sessions.specs.Full.{lawful_by}
use Rattle.mh_judge_log.specs.{declared.timed.Timed.Timed, Logs.ordered_reading, Times.KeepsTime}

-- the entries of commands
abbrev pub entries_of : List Timed → List Entry
entries_of order = map (λ timed. timed.entry) order

-- an order that the times allow, in which each reply is one that a correct collector may give under these rules, by whether a heap may be full
pub record IsLegalOrder (may_be_full : Bool) (rules : Rules) (order : List Timed) : Type 0 where
  pub time : KeepsTime order
  pub seen : lawful_by may_be_full rules (entries_of order)

-- the verdict on an order that is read: the bad line, or what is found of it
abbrev pub IsVerdictOn : Bool → Rules → Reading (List Timed) → Verdict → Type 0
IsVerdictOn may_be_full rules (BadLine line) verdict = verdict ≡ Refused line
IsVerdictOn may_be_full rules (Means order) verdict = IsJudged (IsLegalOrder may_be_full rules) order verdict

-- The verdict on a log with an order. Where no heap may be full, the first full entry is bad
abbrev pub IsLogJudged : Bool → Rules → Text → Verdict → Type 0
IsLogJudged may_be_full rules text verdict = IsVerdictOn may_be_full rules (ordered_reading text) verdict
