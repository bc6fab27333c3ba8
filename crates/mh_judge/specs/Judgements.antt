-- Judgements: verdicts, and what makes them true.
use Rattle.std.specs.Prelude.{◌≡◌, ℕ, List}
use Rattle.mh_model.specs.{declared.config.Config.Config, declared.history.Entry.Entry}
use Rattle.mh_model.specs.{declared.history.Verdict.Verdict, declared.history.Version.Version}
use Rattle.mh_model.specs.{declared.history.Version.TheVariants.One, Bytes.Text}
use Rattle.mh_model.specs.{HistoryTexts.{Recorded, history_reading, recorded_reading}, Script.Means}
use Rattle.mh_reasons.specs.{declared.history_reason.HistoryReason.HistoryReason, HistoryReasons.IsHistoryReason}
use Rattle.mh_judge.specs.{declared.entry_fault.EntryFault.EntryFault, declared.judgement.Judgement.Judgement}
use Rattle.mh_judge.specs.declared.judgement.Judgement.TheVariants.{Legal, Refused, FirstBad}
use Rattle.mh_judge.specs.Faults.{HasFault, IsEntryFault, IsMeasuredFault, IsWrongAfter}

-- what is found of a history
abbrev pub HistoryJudgement : Type 0
HistoryJudgement = Judgement HistoryReason EntryFault

-- the verdict of a judgement
abbrev pub verdict_of : {R F : Type 0} → Judgement R F → Verdict
verdict_of (Legal count) = Verdict.Legal count
verdict_of (Refused line reason) = Verdict.Refused line
verdict_of (FirstBad number fault) = Verdict.FirstBad number

-- of a judgement that finds a text legal this holds, with as many entries
abbrev pub IfLegal : {R F : Type 0} → (ℕ → Type 0) → Judgement R F → Type 0
IfLegal Holds (Legal count) = Holds count
IfLegal Holds judgement = Unit {0}

-- the text is refused as a history of this version with this line, for a reason that is true of it
abbrev pub IsRefusal : Version → Text → ℕ → HistoryJudgement → Type 0
IsRefusal version text line (Refused of reason) = (of ≡ line) × IsHistoryReason version text line reason
IsRefusal version text line judgement = ⊥

-- What a judgement says beside its verdict is true: the reason of a bad line, and what is wrong with a bad entry
abbrev pub IsExplained : {R F : Type 0} → (ℕ → R → Type 0) → (ℕ → F → Type 0) → Judgement R F → Type 0
IsExplained Bad Wrong (Legal count) = Unit {0}
IsExplained Bad Wrong (Refused line reason) = Bad line reason
IsExplained Bad Wrong (FirstBad number fault) = Wrong number fault

-- a fault of the entry with this number, of a text of version 1 under a configuration
abbrev pub IsCheckedFault : Config → Text → ℕ → EntryFault → Type 0
IsCheckedFault config text number fault = (entries : List Entry) × (history_reading text ≡ Means entries) × HasFault (IsWrongAfter config (λ entry. entry.event) IsEntryFault) entries number fault

-- what a judgement says of such a text beside its verdict is true
abbrev pub IsCheckExplained : Config → Text → HistoryJudgement → Type 0
IsCheckExplained config text = IsExplained (IsHistoryReason One text) (IsCheckedFault config text)

-- a fault of the entry with this number, of a text of version 2
abbrev pub IsAuditedFault : Text → ℕ → EntryFault → Type 0
IsAuditedFault text number fault =
    (recorded : Recorded) × (recorded_reading text ≡ Means recorded) × HasFault (IsWrongAfter recorded.config (λ measured. measured.entry.event) IsMeasuredFault) recorded.entries number fault
