-- What is written of a history that is judged or migrated.
use Rattle.std.specs.Prelude.{◌≡◌, ◌⊎◌, ℕ, [], List, Result, Ok, Err}
use Rattle.mh_model.specs.{declared.config.Config.Config, declared.history.Entry.Entry}
use Rattle.mh_model.specs.{declared.history.Verdict.Verdict, declared.history.Verdict.TheVariants.Legal}
use Rattle.mh_model.specs.{declared.history.Version.Version, declared.history.Version.TheVariants.{One, Two}}
use Rattle.mh_model.specs.Bytes.{Text, line_text}
use Rattle.mh_model.specs.HistoryTexts.{IsAudited, IsChecked, IsMigratedTo, history_reading, migration_text, verdict_text}
use Rattle.mh_model.specs.Script.{Means}
use Rattle.mh_text.specs.Devices.{Device}
use Rattle.mh_history.specs.Beginnings.{BeginsWithEntry, BeginsWithMeasured}
use Rattle.mh_judge.specs.{declared.entry_fault.EntryFault.EntryFault, Histories.IsExplainedAs}
use Rattle.mh_judge.specs.Judgements.{HistoryJudgement, IfLegal, IsAuditedFault, IsCheckedFault, verdict_of}
use Rattle.mh_judge.specs.Promised.{IsPromisedRecord, IsPromisedUnder}
use Rattle.mh_script.specs.declared.fault.ScriptFault.{ScriptFault}
use Rattle.mh_script.specs.{declared.fault.ScriptFault.TheVariants.{Write, NoMemory}, Tasks.IsDone}

-- Judged -----------------------------------------------------------------------------------------

-- what of a text is to be written, if its judging ended so: the line of its verdict. What is stated beside it is true
abbrev pub IsVerdictLine : {J : Type 0} → (J → Verdict) → (Text → Verdict → Type 0) → (Text → J → Type 0) → (Text → Type 0) → Text → Result J ScriptFault → Text → Type 0
IsVerdictLine verdict Judged Told Begins text (Ok found) out = Judged text (verdict found) × Told text found × (out ≡ line_text (verdict_text (verdict found)))
IsVerdictLine verdict Judged Told Begins text (Err Write) out = (found : Verdict) × Judged text found × (out ≡ line_text (verdict_text found))
IsVerdictLine verdict Judged Told Begins text (Err NoMemory) out = Begins text × (out ≡ [])
IsVerdictLine verdict Judged Told Begins text (Err fault) out = ⊥

-- what is stated of a text of this version: the reason of a bad line, what is wrong with a bad entry, and what is promised of a legal one
abbrev pub IsToldAs : Version → (Text → ℕ → EntryFault → Type 0) → (Text → ℕ → Type 0) → Text → HistoryJudgement → Type 0
IsToldAs version Fault Promised text found = IsExplainedAs version Fault text found × IfLegal (Promised text) found

-- A history of version 1 was judged under a configuration, and how that ended
abbrev pub IsChecking : Config → (source source' sink sink' : Device) → Result HistoryJudgement ScriptFault → Type 0
IsChecking config = IsDone (IsVerdictLine verdict_of (IsChecked config) (IsToldAs One (IsCheckedFault config) (IsPromisedUnder config)) BeginsWithEntry) 1073741824

-- and one of version 2 under its own
abbrev pub IsAuditing : (source source' sink sink' : Device) → Result HistoryJudgement ScriptFault → Type 0
IsAuditing = IsDone (IsVerdictLine verdict_of IsAudited (IsToldAs Two IsAuditedFault IsPromisedRecord) BeginsWithMeasured) 2147483648

-- Migrated ---------------------------------------------------------------------------------------

-- a text for which migration takes memory: it begins with an entry, or is a history
abbrev pub TakesToMigrate : Text → Type 0
TakesToMigrate text = BeginsWithEntry text ⊎ ((entries : List Entry) × (history_reading text ≡ Means entries))

-- what is written of a legal history is a legal history too, of as many entries, and promised
abbrev pub IsLegallyMigrated : Text → ℕ → Type 0
IsLegallyMigrated out count = IsAudited out (Legal count) × IsPromisedRecord out count

-- this is found of a text, and that is what migration makes of it
pub record IsMigratedBy (config : Config) (text out : Text) (found : HistoryJudgement) : Type 0 where
  pub checked : IsChecked config text (verdict_of found)
  pub told : IsToldAs One (IsCheckedFault config) (IsPromisedUnder config) text found
  pub out_is : out ≡ migration_text config (verdict_of found) (history_reading text)
  pub legal : IfLegal (IsLegallyMigrated out) found

-- what of a text is to be written, if its migration ended so
abbrev pub IsMigration : Config → Text → Result HistoryJudgement ScriptFault → Text → Type 0
IsMigration config text (Ok found) out = IsMigratedBy config text out found
IsMigration config text (Err Write) out = IsMigratedTo config text out
IsMigration config text (Err NoMemory) out = TakesToMigrate text × IsMigratedTo config text out
IsMigration config text (Err fault) out = ⊥

-- A history of a source was migrated, and how that ended
abbrev pub IsMigrating : Config → (source source' sink sink' : Device) → Result HistoryJudgement ScriptFault → Type 0
IsMigrating config = IsDone (IsMigration config) 1073741824
