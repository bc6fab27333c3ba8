-- Logs of pauses: how long the mutator and the collector ran in turn, in any unit.
use Rattle.std.specs.Prelude.{◌==◌, ◌≤◌, nat_lt, if◌then◌else◌, Option, Some, None, option_map, List, [], ◌∷◌, ◌++◌, length, replicate, codes}
use Rattle.mh_model.specs.{declared.birth.TheConstants.LIFE, Bytes.{Text, is_text, number, words}}
use Rattle.mh_model.specs.{Script.{Reading, BadLine, Means}, Trace.Letter}
use Rattle.mh_history.specs.Beginnings.{HasEntry, entries_left}
use Rattle.mh_report.specs.{declared.segment.Unit.TheVariants.{Mutator, Collector}, Segments.letter_of}
use Rattle.mh_text.specs.Pieces.{lines_from}
use Rattle.mh_window_pauses.specs.declared.line.PauseLine.{PauseLine, TheVariants.{Blank, Run}}

-- Lines ------------------------------------------------------------------------------------------

-- `mutator N` or `collector N`: that long it ran
abbrev pub run_of : List Text → Option PauseLine
run_of (unit ∷ count ∷ []) = if is_text unit (codes "mutator") then option_map (λ n. Run Mutator n) (number count) else (if is_text unit (codes "collector") then option_map (λ n. Run Collector n) (number count) else None)
run_of _ = None

-- a line is empty, or a comment that begins with `#`, or a run
abbrev pub line_as_pause : Text → Option PauseLine
line_as_pause [] = Some Blank
line_as_pause (byte ∷ line) = if byte == 35 then Some Blank else run_of (words (byte ∷ line))

-- Logs -------------------------------------------------------------------------------------------

-- the letters of a line, and of lines in order: neighbours alike are one pause
abbrev pub letters_of_line : PauseLine → List Letter
letters_of_line Blank = []
letters_of_line (Run unit count) = replicate count (letter_of unit)

abbrev pub letters_of_lines : List PauseLine → List Letter
letters_of_lines [] = []
letters_of_lines (line ∷ lines) = letters_of_line line ++ letters_of_lines lines

-- letters that are too many are bad with line 0
abbrev pub bounded : Reading (List PauseLine) → Reading (List Letter)
bounded (BadLine line) = BadLine line
bounded (Means lines) = if nat_lt (length (letters_of_lines lines)) LIFE then Means (letters_of_lines lines) else BadLine 0

-- The trace that a log means, or its first bad line. One of more than 2,147,483,648 bytes is bad with line 0, and one of no byte with line 1
abbrev pub pause_reading : Text → Reading (List Letter)
pause_reading [] = BadLine 1
pause_reading (byte ∷ text) = if nat_lt 2147483648 (length (byte ∷ text)) then BadLine 0 else bounded (entries_left line_as_pause (lines_from 1 (byte ∷ text)))

-- A text that isn't too long, of which some lines, from the first on, are those of a log
pub record BeginsWithLine (text : Text) : Type 0 where
  pub short : length text ≤ 2147483648
  pub has : HasEntry line_as_pause (lines_from 1 text)
