-- Texts of either version that are judged by what their sessions see.
use Rattle.std.specs.Prelude.{◌≡◌, ◌⊎◌, ℕ, Bool, if◌then◌else◌, Option, List, Result}
use Rattle.mh_model.specs.{declared.config.Rules.Rules, declared.history.Entry.Entry, declared.history.Verdict.Verdict}
use Rattle.mh_model.specs.declared.history.Verdict.TheVariants.{Refused, Legal, FirstBad}
use Rattle.mh_model.specs.{declared.history.Version.Version, declared.history.Version.TheVariants.{One, Two}}
use Rattle.mh_model.specs.{Bytes.{Text, cut_after}, History.IsFirstBadOf, HistoryTexts.IsJudged}
use Rattle.mh_model.specs.Sessions.{SeenText, Whole, CutOff, Bad, is_of_version_one, rules_or, seen_text}
use Rattle.mh_reasons.specs.{declared.history_reason.HistoryReason.HistoryReason, HistoryReasons.IsHistoryReason}
use Rattle.mh_history.specs.Beginnings.{BeginsWithEntry, BeginsWithMeasured}
use Rattle.mh_judge.specs.{declared.entry_fault.EntryFault.EntryFault, Faults.HasFault}
use Rattle.mh_judge.specs.{Judgements.{HistoryJudgement, IsExplained, verdict_of}, Judged.IsVerdictLine}
use Rattle.mh_text.specs.Devices.{Device}
use Rattle.mh_script.specs.{declared.fault.ScriptFault.ScriptFault, Tasks.IsDone}
use Rattle.mh_judge_sessions.specs.declared.sessions_judgement.SessionsJudgement.{SessionsJudgement}
use Rattle.mh_judge_sessions.specs.Full.{lawful_by, tally_beside, wrong_by}

-- a text of either version that begins with an entry
abbrev pub BeginsWithEither : Text → Type 0
BeginsWithEither text = BeginsWithEntry text ⊎ BeginsWithMeasured text

-- the version as which a text is read, by its first line
abbrev pub version_of : Text → Version
version_of text = if is_of_version_one (cut_after 10 text) then One else Two

-- what a reason says of a text that is refused as a history of the version of its first line; of one that is too long, of either version
abbrev pub IsReasonOf : Text → ℕ → HistoryReason → Type 0
IsReasonOf text line reason = (version : Version) × ((line ≡ 0) ⊎ (version ≡ version_of text)) × IsHistoryReason version text line reason

-- Texts ------------------------------------------------------------------------------------------

-- the verdict on a history that was cut off within this line: the first bad one of the entries before, and if these are lawful the line
abbrev pub IsCutOffJudged : (List Entry → Type 0) → ℕ → List Entry → Verdict → Type 0
IsCutOffJudged Lawful line entries (Refused refused) = (refused ≡ line) × Lawful entries
IsCutOffJudged Lawful line entries (Legal count) = ⊥
IsCutOffJudged Lawful line entries (FirstBad number) = IsFirstBadOf Lawful entries number

-- the verdict on a text that is read so, under the rules that are asked for or that it names, by whether a heap may be full
abbrev pub IsSeenAsBy : Bool → Option Rules → Verdict → SeenText → Type 0
IsSeenAsBy may_be_full asked verdict (Whole named entries) = IsJudged (lawful_by may_be_full (rules_or asked named)) entries verdict
IsSeenAsBy may_be_full asked verdict (CutOff named line entries) = IsCutOffJudged (lawful_by may_be_full (rules_or asked named)) line entries verdict
IsSeenAsBy may_be_full asked verdict (Bad line) = verdict ≡ Refused line

-- The verdict on a text of either version by what its sessions see. Where a heap may be full it is that of `IsSeenThrough`; else the first full entry is bad
abbrev pub IsSeenThroughBy : Bool → Option Rules → Text → Verdict → Type 0
IsSeenThroughBy may_be_full asked text verdict = IsSeenAsBy may_be_full asked verdict (seen_text text)

-- A fault of the entry with this number, also of a history that was cut off, under the rules that are asked for or named
abbrev pub IsSeenFault : Bool → Option Rules → Text → ℕ → EntryFault → Type 0
IsSeenFault may_be_full asked text number fault = wrong (seen_text text) where
  wrong : SeenText → Type 0
  wrong (Whole named entries) = HasFault (wrong_by may_be_full (rules_or asked named)) entries number fault
  wrong (CutOff named line entries) = HasFault (wrong_by may_be_full (rules_or asked named)) entries number fault
  wrong (Bad line) = ⊥

-- What a judgement says of a text beside its verdict is true
abbrev pub IsSeenExplained : Bool → Option Rules → Text → HistoryJudgement → Type 0
IsSeenExplained may_be_full asked text = IsExplained (IsReasonOf text) (IsSeenFault may_be_full asked text)

-- the verdict of what is found
abbrev pub found_verdict : SessionsJudgement → Verdict
found_verdict found = verdict_of found.judgement

-- What is stated of a text beside its verdict is true, and the tally is of what was looked through
pub record IsSeenTold (may_be_full : Bool) (asked : Option Rules) (text : Text) (found : SessionsJudgement) : Type 0 where
  pub explained : IsSeenExplained may_be_full asked text found.judgement
  pub tally : found.tally ≡ tally_beside (found_verdict found) (seen_text text)

-- what is found of a text by what its sessions see
abbrev pub IsSessionsFound : Bool → Option Rules → Text → SessionsJudgement → Type 0
IsSessionsFound may_be_full asked text found = IsSeenThroughBy may_be_full asked text (found_verdict found) × IsSeenTold may_be_full asked text found

-- A history of either version was judged by what its sessions see, and how that ended. Its rules are those that are asked for or that it names
abbrev pub IsSessionsJudging : Bool → Option Rules → (source source' sink sink' : Device) → Result SessionsJudgement ScriptFault → Type 0
IsSessionsJudging may_be_full asked = IsDone (IsVerdictLine found_verdict (IsSeenThroughBy may_be_full asked) (IsSeenTold may_be_full asked) BeginsWithEither) 2147483648
