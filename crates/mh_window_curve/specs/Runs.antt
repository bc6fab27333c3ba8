-- The curves of runs of scripts, of histories and of logs of pauses, and how drawing them ends.
use Rattle.std.specs.Prelude.{◌≡◌, Option, Result, Ok, Err, List, [], IsSomeAnd}
use Rattle.mh_model.specs.{declared.command.Event.Event, declared.config.Config.Config, declared.config.Rules.Rules}
use Rattle.mh_model.specs.{declared.history.Version.TheVariants.Two, Bytes.Text, HistoryTexts.recorded_reading}
use Rattle.mh_model.specs.{Machine.{first_machine, machine_after}, Script.BadLine}
use Rattle.mh_orders.specs.declared.{curve.CurveForm.CurveForm, curve.CurveOptions.CurveOptions}
use Rattle.mh_orders.specs.declared.promises.Promises.{Promises}
use Rattle.mh_window_pauses.specs.{Logs.pause_reading, Reasons.IsPauseReason}
use Rattle.mh_reasons.specs.HistoryReasons.{IsHistoryReason}
use Rattle.mh_script.specs.{declared.end.End.End, declared.fault.ScriptFault.ScriptFault}
use Rattle.mh_script.specs.declared.fault.ScriptFault.TheVariants.{Write, NoMemory, HistoryFull}
use Rattle.mh_script.specs.{Run.{HasRun, MayEndSo, transcript}, Tasks.IsDone}
use Rattle.mh_text.specs.Devices.{Device}
use Rattle.mh_window_curve.specs.declared.end.CurveEnd.{CurveEnd}
use Rattle.mh_window_curve.specs.declared.end.CurveEnd.TheVariants.{Drawn, ScriptRefused, HistoryRefused, HistoryTooLong, LogRefused}
use Rattle.mh_window_curve.specs.{declared.kind.TextKind.TextKind, declared.kind.TextKind.TheVariants.{History, Pauses}}
use Rattle.mh_window_curve.specs.declared.promises.PromiseJudgement.{PromiseJudgement}
use Rattle.mh_window_curve.specs.{Drawings.{IsJudgedText, IsOfText, TakesToDraw}, Histories.IsLongHistory}
use Rattle.mh_window_curve.specs.{Points.{trace_counts, points_of}, Promises.IsJudged, Texts.curve_text}

-- Scripts ----------------------------------------------------------------------------------------

-- the curve of a run of these events, as a text
abbrev pub curve_run : CurveForm → Config → List Event → Text
curve_run form config events =
    let trace = (machine_after (first_machine config) events).trace in
    curve_text form (trace_counts trace) (points_of config trace.letters)

-- What is written of a script: the curve of the run of its first 1,000,000 events under these rules, or its first bad line
abbrev pub curve_output : CurveForm → Rules → Text → Text
curve_output form rules text = transcript (λ _. curve_run form) rules text

-- what was found of promises on the trace of a run of these events
abbrev pub IsJudgedRun : Promises → Config → List Event → PromiseJudgement → Type 0
IsJudgedRun promises config events judgement = IsJudged promises (machine_after (first_machine config) events).trace.letters judgement

-- that was found of a run of these events
abbrev pub IsFoundOfRun : Promises → Config → List Event → Option PromiseJudgement → Type 0
IsFoundOfRun promises config events found = IsSomeAnd found (IsJudgedRun promises config events)

-- how the curve of a run of a text may end. A curve that was drawn has what was found of promises, also if more events are left than were done
abbrev pub MayEndDrawn : CurveOptions → Rules → Text → Result CurveEnd ScriptFault → Type 0
MayEndDrawn options rules text (Ok (Drawn judgement)) = MayEndSo text (Ok End.Done) × HasRun (λ config events. IsJudgedRun options.promises config events judgement) rules text
MayEndDrawn options rules text (Ok (CurveEnd.HistoryFull judgement)) = MayEndSo text (Err HistoryFull) × HasRun (λ config events. IsJudgedRun options.promises config events judgement) rules text
MayEndDrawn options rules text (Ok (ScriptRefused refusal)) = MayEndSo text (Ok (End.Refused refusal))
MayEndDrawn options rules text (Ok other) = ⊥
MayEndDrawn options rules text (Err HistoryFull) = ⊥
MayEndDrawn options rules text (Err fault) = MayEndSo text (Err fault)

-- this is to be written of a script if its curve ended so
abbrev pub IsCurveOutput : CurveOptions → Rules → Text → Result CurveEnd ScriptFault → Text → Type 0
IsCurveOutput options rules text ended out = (out ≡ curve_output options.form rules text) × MayEndDrawn options rules text ended

-- The curve of a run of the script of a source was drawn in a form, and how that ended
abbrev pub IsDrawingRun : CurveOptions → Rules → (source source' sink sink' : Device) → Result CurveEnd ScriptFault → Type 0
IsDrawingRun options rules = IsDone (IsCurveOutput options rules) 67108864

-- Histories and logs -----------------------------------------------------------------------------

-- how the curve of a text ends; a reason is true of the bad line
abbrev pub EndsSo : TextKind → Promises → Text → CurveEnd → Type 0
EndsSo kind promises text (Drawn judgement) = IsJudgedText kind promises text judgement
EndsSo kind promises text (CurveEnd.HistoryFull judgement) = ⊥
EndsSo kind promises text (ScriptRefused refusal) = ⊥
EndsSo History promises text (HistoryRefused line reason) = (recorded_reading text ≡ BadLine line) × IsHistoryReason Two text line reason
EndsSo History promises text HistoryTooLong = IsLongHistory text
EndsSo History promises text (LogRefused line reason) = ⊥
EndsSo Pauses promises text (HistoryRefused line reason) = ⊥
EndsSo Pauses promises text HistoryTooLong = ⊥
EndsSo Pauses promises text (LogRefused line reason) = (pause_reading text ≡ BadLine line) × IsPauseReason text line reason

-- this is to be written of a text if its curve ended so: nothing if memory is refused
abbrev pub IsTextOutput : TextKind → CurveOptions → Text → Result CurveEnd ScriptFault → Text → Type 0
IsTextOutput kind options text (Ok ended) out = IsOfText kind options text out × EndsSo kind options.promises text ended
IsTextOutput kind options text (Err Write) out = IsOfText kind options text out
IsTextOutput kind options text (Err NoMemory) out = TakesToDraw kind text × (out ≡ [])
IsTextOutput kind options text (Err fault) out = ⊥

-- The curve of the text of a source was drawn, and how that ended
abbrev pub IsDrawing : TextKind → CurveOptions → (source source' sink sink' : Device) → Result CurveEnd ScriptFault → Type 0
IsDrawing kind options = IsDone (IsTextOutput kind options) 2147483648
