-- Exit statuses.
use Rattle.std.specs.Prelude.{ℕ, if◌then◌else◌, Result, Ok, Err}
use Rattle.mh_window_curve.specs.{declared.end.CurveEnd.CurveEnd, Promises.is_kept}
use Rattle.mh_model.specs.declared.history.Verdict.{Verdict}
use Rattle.mh_judge_log.specs.{declared.judgement.JudgedLog.JudgedLog, Judgements.verdict_of}
use Rattle.mh_judge.specs.declared.judgement.Judgement.{Judgement}
use Rattle.mh_judge_sessions.specs.declared.sessions_judgement.SessionsJudgement.{SessionsJudgement}
use Rattle.mh_script.specs.declared.{end.End.End, end.End.TheVariants.{Done, Refused}, fault.ScriptFault.ScriptFault}
use Rattle.mh_command_line.specs.declared.fault.LineFault.{LineFault}
use Rattle.mh_command_line.specs.declared.fault.LineFault.TheVariants.{Words, NotText, Configuration, NoMemory}
use Rattle.mh_size_text.specs.declared.end.SizeEnd.{SizeEnd}

-- The status of what ended so: 3 for a fault of memory or of a device, and for a full history
abbrev pub status_of : {T : Type 0} → (T → ℕ) → Result T ScriptFault → ℕ
status_of status (Ok end) = status end
status_of status (Err fault) = 3

-- 0 for a script that was run, 1 for one that was refused
abbrev pub end_status : End → ℕ
end_status Done = 0
end_status (Refused line) = 1

-- 0 for what was written, and once all lines were answered
abbrev pub done_status : Unit {0} → ℕ
done_status done = 0

-- 0 for a legal text, 1 for one that was refused, 4 for one that isn't legal
abbrev pub verdict_status : Verdict → ℕ
verdict_status (Verdict.Legal entries) = 0
verdict_status (Verdict.Refused line) = 1
verdict_status (Verdict.FirstBad entry) = 4

abbrev pub judgement_status : {R F : Type 0} → Judgement R F → ℕ
judgement_status judgement = verdict_status (verdict_of judgement)

abbrev pub sessions_status : SessionsJudgement → ℕ
sessions_status found = judgement_status found.judgement

abbrev pub log_status : JudgedLog → ℕ
log_status found = judgement_status found.judgement

-- 0 for a curve whose trace keeps what was promised, 4 for one that doesn't, or is too short to tell, 3 if more events are left, 1 for a text that was refused
abbrev pub curve_status : CurveEnd → ℕ
curve_status (CurveEnd.Drawn found) = if is_kept found then 0 else 4
curve_status (CurveEnd.HistoryFull found) = 3
curve_status refused = 1

-- 0 for a size that was written, 4 if it was written that there is none, 1 for a script that was refused
abbrev pub size_status : SizeEnd → ℕ
size_status SizeEnd.Sized = 0
size_status SizeEnd.NoSize = 4
size_status (SizeEnd.Refused refusal) = 1

-- 2 for words that are refused, 3 if memory was refused
abbrev pub line_status_of : LineFault → ℕ
line_status_of (Words error) = 2
line_status_of NotText = 2
line_status_of (Configuration option) = 2
line_status_of NoMemory = 3
