-- The curves of histories, as texts.
use Rattle.std.specs.Prelude.{◌≡◌, ◌<◌, ◌≤◌, ℕ, nat_lt, max, if◌then◌else◌, None, List, [], ◌∷◌, ◌++◌, length, replicate, flat_map}
use Rattle.mh_model.specs.{declared.birth.TheConstants.LIFE, declared.config.Config.Config}
use Rattle.mh_model.specs.{declared.history.Measured.Measured, Bytes.{Text, line_text}}
use Rattle.mh_model.specs.{HistoryTexts.{Recorded, recorded_reading}, Replies.bad_line_text}
use Rattle.mh_model.specs.{Script.{Reading, BadLine, Means}, Trace.{Letter, M, C, TraceState}}
use Rattle.mh_orders.specs.declared.curve.CurveForm.{CurveForm}
use Rattle.mh_window_curve.specs.{Points.{trace_counts, points_of}, Texts.curve_text}

-- Traces -----------------------------------------------------------------------------------------

-- the units of an entry: those of the mutator, and then those of the collector
abbrev pub letters_of_entry : Measured → List Letter
letters_of_entry measured = replicate measured.mutator M ++ replicate measured.collector C

-- the units of entries, whatever is replied
abbrev pub letters_of_entries : List Measured → List Letter
letters_of_entries entries = flat_map letters_of_entry entries

-- the most that the collector spent at an entry
abbrev pub greatest_spent : List Measured → ℕ
greatest_spent [] = 0
greatest_spent (measured ∷ entries) = max measured.collector (greatest_spent entries)

-- the trace of a history: entry by entry its units, and the most that the collector spent at one
abbrev pub recorded_trace : List Measured → TraceState
recorded_trace entries = record { letters = letters_of_entries entries; quanta = 0; greatest = greatest_spent entries }

-- Texts ------------------------------------------------------------------------------------------

-- a history whose trace has 2 ^ 62 units or more is refused with line 0
abbrev pub short_reading : Reading Recorded → Reading Recorded
short_reading (BadLine line) = BadLine line
short_reading (Means recorded) = if nat_lt (length (letters_of_entries recorded.entries)) LIFE then Means recorded else BadLine 0

-- the curve of such a trace: how many quanta spent its units isn't known
abbrev pub traced_curve : CurveForm → Config → TraceState → Text
traced_curve form config trace = curve_text form (record (trace_counts trace) { quanta = None }) (points_of config trace.letters)

-- the curve of a history that is read, or the first bad line
abbrev pub recorded_curve : CurveForm → Reading Recorded → Text
recorded_curve form (BadLine line) = line_text (bad_line_text line)
recorded_curve form (Means recorded) = traced_curve form recorded.config (recorded_trace recorded.entries)

-- What is written of a history of version 2: its curve under its own configuration, or its first bad line. Nothing is replayed
abbrev pub history_curve : CurveForm → Text → Text
history_curve form text = recorded_curve form (short_reading (recorded_reading text))

-- Drawings ---------------------------------------------------------------------------------------

-- a trace is short, and has no more quanta than letters
pub record IsShortTrace (trace : TraceState) : Type 0 where
  pub short : length trace.letters < LIFE
  pub few : trace.quanta ≤ length trace.letters

-- the units of an entry were added to a trace
pub record Extends (old : TraceState) (mutator collector : ℕ) (new : TraceState) : Type 0 where
  pub letters : new.letters ≡ old.letters ++ (replicate mutator M ++ replicate collector C)
  pub greatest : new.greatest ≡ max old.greatest collector

-- a history that is read has a trace that is too long
abbrev pub IsLongHistory : Text → Type 0
IsLongHistory text = (recorded : Recorded) × (recorded_reading text ≡ Means recorded) × (LIFE ≤ length (letters_of_entries recorded.entries))
