-- Histories that are read of texts of either version: verdicts on them, and what is wrong with an entry.
use Rattle.std.specs.Prelude.{◌≡◌, ℕ, List}
use Rattle.mh_model.specs.{declared.command.Event.Event, declared.config.Config.Config, declared.history.Entry.Entry}
use Rattle.mh_model.specs.{declared.history.Measured.Measured, declared.history.Verdict.Verdict}
use Rattle.mh_model.specs.{declared.history.Verdict.TheVariants.Refused, declared.history.Version.Version, Bytes.Text}
use Rattle.mh_model.specs.{HistoryTexts.{IsJudged, history_reading, recorded_reading}, Machine.Machine}
use Rattle.mh_model.specs.Script.{Reading, BadLine, Means, reading_map}
use Rattle.mh_reasons.specs.HistoryReasons.{IsHistoryReason}
use Rattle.mh_judge.specs.{declared.entry_fault.EntryFault.EntryFault, Faults.{HasFault, IsWrongAfter}}
use Rattle.mh_judge.specs.Judgements.{HistoryJudgement, IsExplained}

-- a history of either version, with the configuration under which it is judged
pub record History (X : Type 0) : Type 0 where
  pub config : Config
  pub entries : List X

-- the history of entries that are read
abbrev pub under : {X : Type 0} → Config → Reading (List X) → Reading (History X)
under config = reading_map (λ entries. record { config = config; entries = entries })

-- a text of version 1 under a configuration
abbrev pub reading_under : Config → Text → Reading (History Entry)
reading_under config text = under config (history_reading text)

-- a text of version 2, which has one
abbrev pub own_reading : Text → Reading (History Measured)
own_reading text = reading_map (λ recorded. record { config = recorded.config; entries = recorded.entries }) (recorded_reading text)

-- the verdict on a history that is read, by a rule for lists of entries: the bad line, or what is found of the entries
abbrev pub IsVerdictIn : {X : Type 0} → (Config → List X → Type 0) → Reading (History X) → Verdict → Type 0
IsVerdictIn Lawful (BadLine line) verdict = verdict ≡ Refused line
IsVerdictIn Lawful (Means history) verdict = IsJudged (Lawful history.config) history.entries verdict

-- a fault of the entry of it with this number, by what is wrong with one that a machine is to answer
abbrev pub IsFaultIn : {X : Type 0} → (X → Event) → (Machine → X → EntryFault → Type 0) → Reading (History X) → ℕ → EntryFault → Type 0
IsFaultIn event_of Wrong (BadLine line) number fault = ⊥
IsFaultIn event_of Wrong (Means history) number fault = HasFault (IsWrongAfter history.config event_of Wrong) history.entries number fault

-- what a judgement says of a text of this version beside its verdict is true
abbrev pub IsExplainedAs : Version → (Text → ℕ → EntryFault → Type 0) → Text → HistoryJudgement → Type 0
IsExplainedAs version Fault text = IsExplained (IsHistoryReason version text) (Fault text)
