-- What the program does with the words of its command line, and what it writes to standard error.
use Rattle.std.specs.Prelude.{◌≡◌, ℕ, Bool, true, false, Result, Ok, Err, codes}
use Rattle.mh_model.specs.{Bytes.{Text, line_text}, RunHistories.output_under, declared.config.Rules.Rules}
use Rattle.mh_model.specs.declared.config.Rules.TheVariants.{Second}
use Rattle.mh_script.specs.declared.fault.ScriptFault.{ScriptFault}
use Rattle.mh_script.specs.{declared.fault.ScriptFault.TheVariants.{Write, NoMemory}, declared.end.End.End}
use Rattle.mh_script.specs.{Promised.{AreReplies, IsPromisedRun}, Histories.IsHistoryRun, Run.{IsRun, transcript}}
use Rattle.mh_command_line.specs.declared.fault.LineFault.{LineFault}
use Rattle.mh_orders.specs.declared.order.Order.{Order}
use Rattle.mh_orders.specs.declared.order.Order.TheVariants.{Run, Steps, Show, Live, Race, Check, CheckSessions, CheckLog, Audit, Migrate, Generate, Version, Chrome, Cycles, Curve, CurveHistory, CurvePauses, SizeRoom, SizeTarget, SizeScript}
use Rattle.mh_orders.specs.declared.{order.LiveHeap.LiveHeap, order.StepsOptions.StepsOptions}
use Rattle.mh_orders.specs.declared.{range.RangeOptions.RangeOptions, order.LiveHeap.TheVariants.{Machine, World}}
use Rattle.mh_orders.specs.declared.{order.RunForm.RunForm, order.RunForm.TheVariants.{Replies, History}}
use Rattle.mh_orders.specs.declared.generate_options.Options.{Options}
use Rattle.mh_text.specs.Devices.{Device, FailsAt, Takes, TakesSome}
use Rattle.mh_window_curve.specs.{Runs.{IsDrawing, IsDrawingRun}, declared.kind.TextKind.TextKind}
use Rattle.mh_generate.specs.Generated.{IsAsked}
use Rattle.mh_judge.specs.Judged.{IsAuditing, IsChecking, IsMigrating}
use Rattle.mh_race_text.specs.Raced.{IsRaceRun}
use Rattle.mh_live.specs.{Answers.IsOfRules, Feeding.IsLiveRun}
use Rattle.mh_judge_sessions.specs.Texts.{IsSessionsJudging}
use Rattle.mh_judge_log.specs.Judgements.{IsLogJudging}
use Rattle.mh_tell_chrome.specs.Runs.{DrawsReplies, chrome_text}
use Rattle.mh_tell_cycles.specs.Lines.{cycles_text}
use Rattle.mh_tell_show.specs.Page.{ShowsReplies, page_text}
use Rattle.mh_size_text.specs.{declared.end.SizeEnd.SizeEnd, Scripts.IsSizing}
use Rattle.mh_size_counts.specs.Texts.{IsRoomText, IsTargetText}
use Rattle.mh_tell_steps.specs.Steps.{TellsReplies, told_text}
use Rattle.mh_program.specs.Status.{curve_status, done_status, end_status, judgement_status, line_status_of, log_status, sessions_status, size_status, status_of}
use Rattle.mh_program.specs.Complaints.{ErrorStream, SaysDone, SaysEnd, SaysJudgement, SaysLine, SaysLog, SaysRefusals, SaysRun, SaysSeen, SaysSized, SaysCurve}
use Rattle.mh_model.specs.Live as live

-- the line that names the version, the rules and the versions of histories, and what proved them
abbrev pub version_text : Text
version_text = line_text (codes "metroheap 2.0.0: rules 1 and 2, histories 1 and 2, proved by Rattle logic dac8208d650f15bf")

-- an order was carried out: its run ended so, what is to be said of that was reported, and the status is the end's
pub record Obeys {T : Type 0} (Ends : Result T ScriptFault → Type 0) (SaysDone : ErrorStream → ErrorStream → T → Type 0) (status_by : T → ℕ) (errors errors' : ErrorStream) (status : ℕ) : Type 0 where
  pub ended : Result T ScriptFault
  pub run : Ends ended
  pub said : SaysRun SaysDone errors errors' ended
  pub exit : status ≡ status_of status_by ended

-- what answers lines before the first of them: no machine yet, or a world under the second rules
abbrev pub IsOpened : LiveHeap → live.Live → Type 0
IsOpened Machine opened = opened ≡ live.Waits
IsOpened World opened = IsOfRules Second opened

-- lines were answered as they came, those that were refused were reported in between, and at the end a fault
pub record AnswersLines (heap : LiveHeap) (source source' sink sink' : Device) (errors errors' : ErrorStream) (status : ℕ) : Type 0 where
  pub opened : live.Live
  pub first : IsOpened heap opened
  pub ended : Result Unit ScriptFault
  pub between : ErrorStream
  pub run : IsLiveRun opened (λ refusals. SaysRefusals errors refusals between) source source' sink sink' ended
  pub said : SaysRun SaysDone between errors' ended
  pub exit : status ≡ status_of done_status ended

-- the version was written, or a prefix of it if the device failed
abbrev pub WritesVersion : (old new : Device) → Result Unit ScriptFault → Type 0
WritesVersion old new (Ok done) = Takes old new version_text
WritesVersion old new (Err Write) = FailsAt old new version_text
WritesVersion old new ended = ⊥

-- the random script that was asked for was written, or a prefix of one if the device failed or memory was refused
abbrev pub WritesScript : Options → (old new : Device) → Result Unit ScriptFault → Type 0
WritesScript options old new (Ok done) = (text : Text) × IsAsked options text × Takes old new text
WritesScript options old new (Err Write) = (text : Text) × IsAsked options text × FailsAt old new text
WritesScript options old new (Err NoMemory) = (text : Text) × IsAsked options text × TakesSome old new text
WritesScript options old new ended = ⊥

-- a text of this kind was written whole, by whether it has a size, or a prefix of one if the device failed, and nothing if memory was refused
abbrev pub WritesSize : (Text → Bool → Type 0) → (old new : Device) → Result SizeEnd ScriptFault → Type 0
WritesSize Is old new (Ok SizeEnd.Sized) = (text : Text) × Is text true × Takes old new text
WritesSize Is old new (Ok SizeEnd.NoSize) = (text : Text) × Is text false × Takes old new text
WritesSize Is old new (Err Write) = (text : Text) × ((found : Bool) × Is text found) × FailsAt old new text
WritesSize Is old new (Err NoMemory) = new ≡ old
WritesSize Is old new ended = ⊥

-- there was no order: nothing was read or written, and the reason was reported
pub record Declines (source source' sink sink' : Device) (errors errors' : ErrorStream) (fault : LineFault) (status : ℕ) : Type 0 where
  pub unread : source' ≡ source
  pub unwritten : sink' ≡ sink
  pub said : SaysLine errors errors' fault
  pub exit : status ≡ line_status_of fault

-- a run of the script of a source in this form under these rules, and how it ended. Replies are those of an outcome that keeps the promise
abbrev pub IsRunBy : RunForm → Rules → (source source' sink sink' : Device) → Result End ScriptFault → Type 0
IsRunBy Replies rules = IsPromisedRun AreReplies rules (output_under rules)
IsRunBy History rules = IsHistoryRun rules

-- a run of the script of a source that is written as its steps, as trace events, or as a page, and how it ended. So are the replies that these show
abbrev pub IsStepsRun : StepsOptions → (source source' sink sink' : Device) → Result End ScriptFault → Type 0
IsStepsRun options = IsPromisedRun (TellsReplies options.steps) options.rules (transcript (told_text options.steps) options.rules)

abbrev pub IsChromeRun : RangeOptions → (source source' sink sink' : Device) → Result End ScriptFault → Type 0
IsChromeRun options = IsPromisedRun (DrawsReplies options) options.rules (transcript (chrome_text options) options.rules)

abbrev pub IsShowRun : RangeOptions → (source source' sink sink' : Device) → Result End ScriptFault → Type 0
IsShowRun options = IsPromisedRun (ShowsReplies options) options.rules (transcript (page_text options) options.rules)

-- What the program does on an order, or on words that give none
abbrev pub Serves : Result Order LineFault → (source source' sink sink' : Device) (errors errors' : ErrorStream) → ℕ → Type 0
Serves (Ok (Run options)) source source' sink sink' errors errors' status = Obeys (IsRunBy options.form options.rules source source' sink sink') SaysEnd end_status errors errors' status
Serves (Ok (Steps options)) source source' sink sink' errors errors' status = Obeys (IsStepsRun options source source' sink sink') SaysEnd end_status errors errors' status
Serves (Ok (Chrome options)) source source' sink sink' errors errors' status = Obeys (IsChromeRun options source source' sink sink') SaysEnd end_status errors errors' status
Serves (Ok (Cycles rules)) source source' sink sink' errors errors' status = Obeys (IsRun (transcript (λ _. cycles_text) rules) source source' sink sink') SaysEnd end_status errors errors' status
Serves (Ok (Show options)) source source' sink sink' errors errors' status = Obeys (IsShowRun options source source' sink sink') SaysEnd end_status errors errors' status
Serves (Ok (Live options)) source source' sink sink' errors errors' status = AnswersLines options.heap source source' sink sink' errors errors' status
Serves (Ok (Race workers)) source source' sink sink' errors errors' status = Obeys (IsRaceRun source source' sink sink') SaysEnd end_status errors errors' status
Serves (Ok (Check config)) source source' sink sink' errors errors' status = Obeys (IsChecking config source source' sink sink') SaysJudgement judgement_status errors errors' status
Serves (Ok (CheckSessions options)) source source' sink sink' errors errors' status =
    Obeys (IsSessionsJudging options.may_be_full options.rules source source' sink sink') SaysSeen sessions_status errors errors' status
Serves (Ok (CheckLog options)) source source' sink sink' errors errors' status = Obeys (IsLogJudging options.may_be_full options.rules source source' sink sink') SaysLog log_status errors errors' status
Serves (Ok Audit) source source' sink sink' errors errors' status = Obeys (IsAuditing source source' sink sink') SaysJudgement judgement_status errors errors' status
Serves (Ok (Migrate config)) source source' sink sink' errors errors' status = Obeys (IsMigrating config source source' sink sink') SaysJudgement judgement_status errors errors' status
Serves (Ok (Curve rules options)) source source' sink sink' errors errors' status = Obeys (IsDrawingRun options rules source source' sink sink') SaysCurve curve_status errors errors' status
Serves (Ok (CurveHistory options)) source source' sink sink' errors errors' status = Obeys (IsDrawing TextKind.History options source source' sink sink') SaysCurve curve_status errors errors' status
Serves (Ok (CurvePauses options)) source source' sink sink' errors errors' status = Obeys (IsDrawing TextKind.Pauses options source source' sink sink') SaysCurve curve_status errors errors' status
Serves (Ok (Generate options)) source source' sink sink' errors errors' status = (source' ≡ source) × Obeys (WritesScript options sink sink') SaysDone done_status errors errors' status
Serves (Ok (SizeRoom options)) source source' sink sink' errors errors' status = (source' ≡ source) × Obeys (WritesSize (IsRoomText options) sink sink') SaysSized size_status errors errors' status
Serves (Ok (SizeTarget options)) source source' sink sink' errors errors' status = (source' ≡ source) × Obeys (WritesSize (IsTargetText options) sink sink') SaysSized size_status errors errors' status
Serves (Ok (SizeScript options)) source source' sink sink' errors errors' status = Obeys (IsSizing options source source' sink sink') SaysSized size_status errors errors' status
Serves (Ok Version) source source' sink sink' errors errors' status = (source' ≡ source) × Obeys (WritesVersion sink sink') SaysDone done_status errors errors' status
Serves (Err fault) source source' sink sink' errors errors' status = Declines source source' sink sink' errors errors' fault status
