-- What is drawn of texts that are no scripts: histories of version 2 and logs of pauses.
use Rattle.std.specs.Prelude.{◌≡◌, ◌⊎◌, List}
use Rattle.mh_history.specs.Beginnings.{BeginsWithMeasured}
use Rattle.mh_model.specs.{Bytes.Text, HistoryTexts.{Recorded, recorded_reading}, Script.Means, Trace.Letter}
use Rattle.mh_orders.specs.declared.{curve.CurveOptions.CurveOptions, promises.Promises.Promises}
use Rattle.mh_window_pauses.specs.Logs.{BeginsWithLine, pause_reading}
use Rattle.mh_window_curve.specs.{declared.kind.TextKind.TextKind, declared.kind.TextKind.TheVariants.{History, Pauses}}
use Rattle.mh_window_curve.specs.declared.promises.PromiseJudgement.{PromiseJudgement}
use Rattle.mh_window_curve.specs.{Histories.{history_curve, letters_of_entries, short_reading}, PauseTexts.IsOfLog}
use Rattle.mh_window_curve.specs.Promises.{IsJudged}

-- the text has these units
abbrev pub HasLetters : TextKind → Text → List Letter → Type 0
HasLetters History text letters = (recorded : Recorded) × (short_reading (recorded_reading text) ≡ Means recorded) × (letters ≡ letters_of_entries recorded.entries)
HasLetters Pauses text letters = pause_reading text ≡ Means letters

-- What is written of a text of this kind: its curve, or its first bad line
abbrev pub IsOfText : TextKind → CurveOptions → Text → Text → Type 0
IsOfText History options text written = written ≡ history_curve options.form text
IsOfText Pauses options text written = IsOfLog options (pause_reading text) written

-- a text for whose curve memory is taken: it begins with an entry or a line, or is a history or a log
abbrev pub TakesToDraw : TextKind → Text → Type 0
TakesToDraw History text = BeginsWithMeasured text ⊎ ((recorded : Recorded) × (recorded_reading text ≡ Means recorded))
TakesToDraw Pauses text = BeginsWithLine text ⊎ ((letters : List Letter) × (pause_reading text ≡ Means letters))

-- what its units break of promises
abbrev pub IsJudgedText : TextKind → Promises → Text → PromiseJudgement → Type 0
IsJudgedText kind promises text judgement = (letters : List Letter) × HasLetters kind text letters × IsJudged promises letters judgement
