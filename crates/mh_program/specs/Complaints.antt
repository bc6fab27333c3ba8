-- What the program tells on standard error.
use Rattle.std.specs.Prelude.{◌≡◌, ℕ, ◌+◌, ◌-◌, nat_lt, if◌then◌else◌, Bool, true, false, Option, List, [], ◌∷◌, ◌++◌, Result, Ok, Err, codes, decimal, MatchOption}
use Rattle.mh_window_curve.specs.declared.{end.CurveEnd.CurveEnd, promises.LongPause.LongPause}
use Rattle.mh_window_curve.specs.declared.promises.PromiseJudgement.{PromiseJudgement}
use Rattle.mh_window_curve.specs.declared.{promises.ShortStretch.ShortStretch, promises.Untried.Untried}
use Rattle.mh_orders.specs.declared.{promises.Share.Share, order.ConfigOption.ConfigOption}
use Rattle.mh_orders.specs.declared.order.ConfigOption.TheVariants.{Pages, Quantum, Trigger, Every}
use Rattle.mh_windows.specs.declared.floor.BrokenFloor.{BrokenFloor}
use Rattle.mh_judge_log.specs.{declared.judgement.JudgedLog.JudgedLog, declared.tally.OrderCounts.OrderCounts}
use Rattle.mh_judge_log.specs.{Judgements.LogJudgement, Texts.{log_reason_text, order_fault_text}}
use Rattle.mh_judge.specs.{Judgements.HistoryJudgement, declared.judgement.Judgement.Judgement}
use Rattle.mh_judge.specs.FaultTexts.{entry_fault_text}
use Rattle.mh_judge_sessions.specs.declared.sessions_judgement.SessionsJudgement.{SessionsJudgement}
use Rattle.mh_judge_sessions.specs.declared.tally.EntryCounts.{EntryCounts}
use Rattle.mh_model.specs.Bytes.{Text, line_text}
use Rattle.mh_command_line.specs.{declared.fault.LineFault.LineFault, Printable.IsPrintable}
use Rattle.mh_script.specs.declared.{end.End.End, end.End.TheVariants.{Done, Refused}, end.LineRefusal.LineRefusal}
use Rattle.mh_script.specs.declared.fault.ScriptFault.{ScriptFault}
use Rattle.mh_script.specs.declared.fault.ScriptFault.TheVariants.{Read, Write, NoMemory, HistoryFull}
use Rattle.mh_size_text.specs.declared.end.SizeEnd.{SizeEnd}
use Rattle.mh_program.specs.declared.complaints.Subject.{Subject}
use Rattle.mh_text.specs.Devices.{Device, FailsAt, Takes}
use Rattle.mh_reasons.specs.declared.history_reason.HistoryReason.{HistoryReason}
use Rattle.mh_reasons.specs.Texts.{history_reason_text, script_reason_text}
use Rattle.mh_window_pauses.specs.Reasons.{reason_text}
use Rattle.mh_window_curve.specs.declared.promises.Broken as promises

-- The stream -------------------------------------------------------------------------------------

-- standard error, and whether a write to it has failed
pub record ErrorStream : Type 0 where
  pub device : Device
  pub has_failed : Bool

-- one to which nothing was told yet
abbrev pub fresh : Device → ErrorStream
fresh device = record { device = device; has_failed = false }

-- a text was written whole, or a prefix of it if the device failed; nothing after a failure
pub data Says (old new : ErrorStream) (text : Text) : Type 0 where
  Whole : old.has_failed ≡ false → Takes old.device new.device text → new.has_failed ≡ false → Says old new text
  Broken : old.has_failed ≡ false → FailsAt old.device new.device text → new.has_failed ≡ true → Says old new text
  Silent : old.has_failed ≡ true → new ≡ old → Says old new text

-- nothing was told
abbrev pub SaysNothing : ErrorStream → ErrorStream → Type 0
SaysNothing old new = new ≡ old

-- Texts ------------------------------------------------------------------------------------------

-- the line of a fault
abbrev pub fault_text : ScriptFault → Text
fault_text Read = codes "metroheap: read failed"
fault_text Write = codes "metroheap: write failed"
fault_text NoMemory = codes "metroheap: no memory"
fault_text HistoryFull = codes "metroheap: history full"

-- the line for an option that is outside the limits of a configuration
abbrev pub outside_text : ConfigOption → Text
outside_text Pages = codes "metroheap: bad configuration: --pages goes from 1 to 4096"
outside_text Quantum = codes "metroheap: bad configuration: --quantum goes from 209 to 1000000"
outside_text Trigger = codes "metroheap: bad configuration: --trigger goes from 0 to the number of pages"
outside_text Every = codes "metroheap: bad configuration: --every goes from 0 to 1000000"

-- how a complaint begins: of a line, of an entry of a history, whose entries begin at line 2, and of an entry of an order
abbrev pub subject_text : Subject → Text
subject_text (Subject.Line line) = codes "metroheap: line " ++ decimal line ++ codes ": "
subject_text (Subject.Entry number) = codes "metroheap: line " ++ decimal (number + 1) ++ codes ", entry " ++ decimal number ++ codes ": "
subject_text (Subject.Order number) = codes "metroheap: entry " ++ decimal number ++ codes " of the order: "

-- what is said of a history that is refused, of which the entries were judged by what sessions see. The whole lines of one that was cut off were judged
abbrev pub seen_reason_text : ℕ → HistoryReason → Text
seen_reason_text line HistoryReason.NoNewline =
    history_reason_text HistoryReason.NoNewline ++ (if nat_lt 1 line then codes "; legal entries before it: " ++ decimal (line - 2) else [])
seen_reason_text line reason = history_reason_text reason

-- What it gets ------------------------------------------------------------------------------------

-- what quotes an input: a text of this kind, or another if there is no memory for that
pub data SaysQuoted (old new : ErrorStream) (Is : Text → Type 0) (other : Text) : Type 0 where
  Quoted : (text : Text) → Is text → Says old new text → SaysQuoted old new Is other
  Unquoted : Says old new other → SaysQuoted old new Is other

-- a complaint on one line: where, and what; or another if there is no memory for that
abbrev pub SaysComplaint : ErrorStream → ErrorStream → (place what other : Text) → Type 0
SaysComplaint old new place what other = SaysQuoted old new (λ text. text ≡ place ++ line_text what) (line_text other)

-- of words that `clap` refuses: what it says of them
abbrev pub SaysWords : ErrorStream → ErrorStream → Type 0
SaysWords old new = SaysQuoted old new IsPrintable (line_text (codes "metroheap: bad command line"))

-- of a script that is refused: where, and why
abbrev pub SaysRefusal : ErrorStream → ErrorStream → LineRefusal → Type 0
SaysRefusal old new refusal = SaysComplaint old new (subject_text (Subject.Line refusal.line)) (script_reason_text refusal.reason) (codes "metroheap: the script is outside the grammar")

-- of lines that are refused one by one: the same of each in turn
pub data SaysRefusals : ErrorStream → List LineRefusal → ErrorStream → Type 0 where
  None : (old : ErrorStream) → SaysRefusals old [] old
  One : (old new : ErrorStream) (refusal : LineRefusal) → SaysRefusal old new refusal → SaysRefusals old (refusal ∷ []) new
  More : (old mid new : ErrorStream) (before : List LineRefusal) (refusal : LineRefusal) → SaysRefusals old before mid → SaysRefusals mid (refusal ∷ []) new → SaysRefusals old (before ++ refusal ∷ []) new

-- of how a run or a race ended: nothing if the script was done
abbrev pub SaysEnd : ErrorStream → ErrorStream → End → Type 0
SaysEnd old new Done = SaysNothing old new
SaysEnd old new (Refused refusal) = SaysRefusal old new refusal

-- of a size: nothing if the script was done
abbrev pub SaysSized : ErrorStream → ErrorStream → SizeEnd → Type 0
SaysSized old new (SizeEnd.Refused refusal) = SaysRefusal old new refusal
SaysSized old new ended = SaysNothing old new

-- of a history: nothing if it is legal, and else where and why it isn't
abbrev pub SaysJudgement : ErrorStream → ErrorStream → HistoryJudgement → Type 0
SaysJudgement old new (Judgement.Legal count) = SaysNothing old new
SaysJudgement old new (Judgement.Refused line reason) = SaysComplaint old new (subject_text (Subject.Line line)) (history_reason_text reason) (codes "metroheap: the history is outside the grammar")
SaysJudgement old new (Judgement.FirstBad number fault) = SaysComplaint old new (subject_text (Subject.Entry number)) (entry_fault_text fault) (codes "metroheap: an entry is bad")

-- the line of what was looked through of a history
abbrev pub tally_text : EntryCounts → Text
tally_text tally =
    line_text (codes "metroheap: entries " ++ decimal tally.entries ++ codes " full " ++ decimal tally.full ++ codes " quanta " ++ decimal tally.quanta ++ codes " starts " ++ decimal tally.starts)

-- what was looked through, if the text was read
abbrev pub SaysTally : ErrorStream → ErrorStream → Option EntryCounts → Type 0
SaysTally old new found = MatchOption found (SaysNothing old new) (λ tally. Says old new (tally_text tally))

-- of a history that is judged by what its sessions see: of one that was cut off also how many entries are legal, and then what was looked through
abbrev pub SaysSeenJudgement : ErrorStream → ErrorStream → HistoryJudgement → Type 0
SaysSeenJudgement old new (Judgement.Refused line reason) = SaysComplaint old new (subject_text (Subject.Line line)) (seen_reason_text line reason) (codes "metroheap: the history is outside the grammar")
SaysSeenJudgement old new judgement = SaysJudgement old new judgement

abbrev pub SaysSeen : ErrorStream → ErrorStream → SessionsJudgement → Type 0
SaysSeen old new found = (between : ErrorStream) × SaysSeenJudgement old between found.judgement × SaysTally between new found.tally

-- of a judgement on a log: nothing if its order is legal, and else where and why it isn't
abbrev pub SaysLogJudgement : ErrorStream → ErrorStream → LogJudgement → Type 0
SaysLogJudgement old new (Judgement.Legal count) = SaysNothing old new
SaysLogJudgement old new (Judgement.Refused line reason) = SaysComplaint old new (subject_text (Subject.Line line)) (log_reason_text reason) (codes "metroheap: the log is outside the grammar")
SaysLogJudgement old new (Judgement.FirstBad number fault) = SaysComplaint old new (subject_text (Subject.Order number)) (order_fault_text fault) (codes "metroheap: an entry is bad")

-- the line of what was looked through of the order of a log
abbrev pub counts_text : OrderCounts → Text
counts_text counts = line_text (codes "metroheap: entries " ++ decimal counts.entries ++ codes " full " ++ decimal counts.full)

-- what was looked through of it, if the text was read
abbrev pub SaysCounts : ErrorStream → ErrorStream → Option OrderCounts → Type 0
SaysCounts old new found = MatchOption found (SaysNothing old new) (λ counts. Says old new (counts_text counts))

-- of a log: what is said of the judgement, and then what was looked through
abbrev pub SaysLog : ErrorStream → ErrorStream → JudgedLog → Type 0
SaysLog old new found = (between : ErrorStream) × SaysLogJudgement old between found.judgement × SaysCounts between new found.tally

-- the lines of what was promised of all windows and isn't so: a window below its floor, a pause that is too long, and a stretch below its share
abbrev pub floor_text : BrokenFloor → Text
floor_text floor =
    line_text (codes "metroheap: the window " ++ decimal floor.window ++ codes " at " ++ decimal floor.at ++ codes " has " ++ decimal floor.least ++ codes ", and " ++ decimal floor.floor ++ codes " was promised")

abbrev pub pause_text : LongPause → Text
pause_text long = line_text (codes "metroheap: a pause of " ++ decimal long.pause.units ++ codes " at " ++ decimal long.pause.start ++ codes ", and " ++ decimal long.promised ++ codes " was promised")

abbrev pub stretch_text : ShortStretch → Text
stretch_text short =
    line_text (codes "metroheap: the stretch from " ++ decimal short.stretch.start ++ codes " to " ++ decimal short.stretch.end ++ codes " has " ++ decimal short.units ++ codes ", and " ++ decimal short.promised.percent ++ codes " % of "
    ++ decimal short.promised.from ++ codes " and more was promised")

-- the line of what was found, if anything was
abbrev pub SaysFound : {X : Type 0} → (X → Text) → ErrorStream → ErrorStream → Option X → Type 0
SaysFound text_of old new found = MatchOption found (SaysNothing old new) (λ x. Says old new (text_of x))

-- the lines of what was promised and no trace of so few units breaks: it is too short for a window with a floor, for a pause, or for a stretch
abbrev pub untried_floor_text : ℕ → Text
untried_floor_text units = line_text (codes "metroheap: not tried: a trace of " ++ decimal units ++ codes " units has no window with a floor")

abbrev pub untried_pause_text : ℕ → ℕ → Text
untried_pause_text units most = line_text (codes "metroheap: not tried: a trace of " ++ decimal units ++ codes " units has no pause of more than " ++ decimal most)

abbrev pub untried_stretch_text : ℕ → Share → Text
untried_stretch_text units share = line_text (codes "metroheap: not tried: a trace of " ++ decimal units ++ codes " units has no stretch of " ++ decimal share.from ++ codes " and more")

-- of promises: a line for each that is broken
abbrev pub SaysBroken : ErrorStream → ErrorStream → promises.Broken → Type 0
SaysBroken old new broken = (first second : ErrorStream) × SaysFound floor_text old first broken.floor × SaysFound pause_text first second broken.pause × SaysFound stretch_text second new broken.stretch

-- and a line for each that was not tried
abbrev pub SaysUntried : ErrorStream → ErrorStream → Untried → Type 0
SaysUntried old new untried =
    (first second : ErrorStream) × SaysFound (λ _. untried_floor_text untried.units) old first untried.floor × SaysFound (untried_pause_text untried.units) first second untried.pause × SaysFound (untried_stretch_text untried.units) second new untried.stretch

abbrev pub SaysPromises : ErrorStream → ErrorStream → PromiseJudgement → Type 0
SaysPromises old new found = (between : ErrorStream) × SaysBroken old between found.broken × SaysUntried between new found.untried

-- of a curve: what was found of what was promised if it was drawn, and then whether more events are left; else where and why it wasn't
abbrev pub SaysCurve : ErrorStream → ErrorStream → CurveEnd → Type 0
SaysCurve old new (CurveEnd.Drawn found) = SaysPromises old new found
SaysCurve old new (CurveEnd.HistoryFull found) = (between : ErrorStream) × SaysPromises old between found × Says between new (line_text (fault_text HistoryFull))
SaysCurve old new (CurveEnd.ScriptRefused refusal) = SaysRefusal old new refusal
SaysCurve old new (CurveEnd.HistoryRefused line reason) = SaysComplaint old new (subject_text (Subject.Line line)) (history_reason_text reason) (codes "metroheap: the history is outside the grammar")
SaysCurve old new CurveEnd.HistoryTooLong = Says old new (line_text (codes "metroheap: line 0: a history has fewer than 4611686018427387904 units"))
SaysCurve old new (CurveEnd.LogRefused line reason) = SaysComplaint old new (subject_text (Subject.Line line)) (reason_text reason) (codes "metroheap: the log is outside the grammar")

-- of what ends with more to tell, or with a fault
abbrev pub SaysRun : {T : Type 0} → (ErrorStream → ErrorStream → T → Type 0) → ErrorStream → ErrorStream → Result T ScriptFault → Type 0
SaysRun SaysDone old new (Ok done) = SaysDone old new done
SaysRun SaysDone old new (Err fault) = Says old new (line_text (fault_text fault))

-- of what ends well without a word
abbrev pub SaysDone : ErrorStream → ErrorStream → Unit {0} → Type 0
SaysDone old new done = SaysNothing old new

-- of words that gave no order
abbrev pub SaysLine : ErrorStream → ErrorStream → LineFault → Type 0
SaysLine old new (LineFault.Words error) = SaysWords old new
SaysLine old new LineFault.NotText = Says old new (line_text (codes "metroheap: a word is not text"))
SaysLine old new (LineFault.Configuration option) = Says old new (line_text (outside_text option))
SaysLine old new LineFault.NoMemory = Says old new (line_text (codes "metroheap: no memory"))
