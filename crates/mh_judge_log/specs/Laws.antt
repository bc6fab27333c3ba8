-- Laws of logs with an order.
use Rattle.std.specs.Prelude.{◌≡◌, ℕ, Bool, List}
use Rattle.mh_model.specs.{declared.config.Rules.Rules, declared.history.Verdict.TheVariants.Legal, Bytes.Text}
use Rattle.mh_model.specs.Script.{Means}
use Rattle.mh_judge_sessions.specs.Full.{lawful_by}
use Rattle.mh_judge_log.specs.{declared.timed.Timed.Timed, Linearizations.{HasLog, IsLinearization, IsOrderOf}}
use Rattle.mh_judge_log.specs.{Logs.ordered_reading, Orders.{IsLogJudged, entries_of}}

-- The order of a text that is read is one of its log
abbrev pub OrdersAreOfTheirLog : Type 0
OrdersAreOfTheirLog = (text : Text) (order : List Timed) → ordered_reading text ≡ Means order → (log : List Timed) × HasLog text log × IsOrderOf log order

-- A log that is judged legal has a linearization whose replies a correct collector may give its sessions, by whether a heap may be full
abbrev pub LegalLogsAreLinearizable : Type 0
LegalLogsAreLinearizable = (may_be_full : Bool) (rules : Rules) (text : Text) (count : ℕ) → IsLogJudged may_be_full rules text (Legal count)
    → (log : List Timed) × HasLog text log × ((order : List Timed) × IsLinearization log order × lawful_by may_be_full rules (entries_of order))
