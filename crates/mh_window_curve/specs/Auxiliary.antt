-- Auxiliary definitions: what loops, private functions and the insides of types keep. No public contract depends on them.
use Rattle.std.specs.Prelude.{◌≡◌, ℕ, List, [], ◌≤◌, Bool, true, false, ◌∷◌, ◌++◌, length, Option, Some, None, IsSome, Result, Ok, Err}
use Rattle.std.specs.String.{string_bytes}
use Rattle.mh_model.specs.{Bytes.Text, HistoryTexts.recorded_reading, Script.BadLine, Trace.{Letter, TraceState}}
use Rattle.mh_model.specs.{declared.birth.TheConstants.LIFE, declared.history.Measured.Measured}
use Rattle.mh_orders.specs.declared.curve.CurveOptions.{CurveOptions}
use Rattle.mh_window_pauses.specs.Logs.{pause_reading}
use Rattle.mh_window_curve.specs.declared.drawing.Drawing.{Drawing}
use Rattle.mh_window_curve.specs.declared.drawing.Drawing.TheVariants.{Curve, Refused, TooLong}
use Rattle.mh_window_curve.specs.{declared.kind.TextKind.TextKind, declared.kind.TextKind.TheVariants.{History, Pauses}}
use Rattle.mh_window_curve.specs.Histories.{IsLongHistory, letters_of_entries, greatest_spent}
use Rattle.mh_window_curve.specs.{Drawings.{IsOfText, IsJudgedText}, declared.tally.Tally.Tally}
use Rattle.mh_window_curve.specs.declared.end.CurveEnd.{CurveEnd}
use Rattle.mh_window_curve.specs.declared.end.CurveEnd.TheVariants.{Drawn, ScriptRefused}
use Rattle.mh_window_curve.specs.declared.promises.PromiseJudgement.{PromiseJudgement}
use Rattle.mh_windows.specs.{Lowest.IsLowest, declared.always.WindowLeast.WindowLeast}
use Rattle.mh_script.specs.declared.{end.End.End, end.End.TheVariants.{Done, Refused}, fault.ScriptFault.ScriptFault}
use Rattle.mh_script.specs.declared.fault.ScriptFault.TheVariants.{HistoryFull}

-- the text has this first bad line. That a history has too many units is another matter
abbrev pub IsBadLine : TextKind → Text → ℕ → Type 0
IsBadLine History text line = recorded_reading text ≡ BadLine line
IsBadLine Pauses text line = pause_reading text ≡ BadLine line

-- what is drawn of a text, before it is written
abbrev pub IsDrawnText : TextKind → CurveOptions → Text → Drawing → Type 0
IsDrawnText kind options text (Curve written judgement) = IsJudgedText kind options.promises text judgement × IsOfText kind options text (string_bytes written)
IsDrawnText kind options text (Refused line) = IsBadLine kind text line
IsDrawnText History options text TooLong = IsLongHistory text
IsDrawnText Pauses options text TooLong = ⊥

-- the trace of some entries
pub record IsTraceOf (entries : List Measured) (trace : TraceState) : Type 0 where
  pub letters : trace.letters ≡ letters_of_entries entries
  pub greatest : trace.greatest ≡ greatest_spent entries

-- a trace is that of some entries as long as it has fewer than 2 ^ 62 units
abbrev pub IsTraceIf : Bool → List Measured → TraceState → Type 0
IsTraceIf true entries trace = IsTraceOf entries trace
IsTraceIf false entries trace = LIFE ≤ length (letters_of_entries entries)

-- the trace of a tally is that of some entries as long as it has fewer than 2 ^ 62 units
abbrev pub IsTallyOf : List Measured → Tally → Type 0
IsTallyOf entries tally = IsTraceIf tally.is_short entries tally.trace.trace

-- a point was added, with the place where its window has its least
pub record AddsPlace (letters : List Letter) (window : ℕ) (points points' : List WindowLeast) (places places' : List ℕ) : Type 0 where
  pub point : WindowLeast
  pub place : ℕ
  pub window_is : point.window ≡ window
  pub lowest : IsLowest letters window point.least place
  pub added : points' ≡ points ++ point ∷ []
  pub placed : places' ≡ places ++ place ∷ []

-- something was found of a run, if it ended as one does whose curve was written
abbrev pub IsFoundIf : Result End ScriptFault → Option PromiseJudgement → Type 0
IsFoundIf (Ok Done) found = IsSome found
IsFoundIf (Err HistoryFull) found = IsSome found
IsFoundIf ended found = Unit {0}

-- how the curve of a run ends that ended so, of which this was found
abbrev pub IsEndOf : Result End ScriptFault → Option PromiseJudgement → Result CurveEnd ScriptFault → Type 0
IsEndOf (Ok Done) (Some judgement) ended = ended ≡ Ok (Drawn judgement)
IsEndOf (Ok Done) None ended = ⊥
IsEndOf (Ok (Refused refusal)) found ended = ended ≡ Ok (ScriptRefused refusal)
IsEndOf (Err HistoryFull) (Some judgement) ended = ended ≡ Ok (CurveEnd.HistoryFull judgement)
IsEndOf (Err HistoryFull) None ended = ⊥
IsEndOf (Err fault) found ended = ended ≡ Err fault
