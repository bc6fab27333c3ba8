-- Lines of the code, in the model's words.
use Rattle.mh_model.specs.Script as book
use Rattle.mh_text.specs.declared.line.Line.{Line, TheVariants.{Blank, Calls, Asks, Wrong}}

-- a line of the code as a line of the model
abbrev pub line_shown : Line → book.Line
line_shown Blank = book.Blank
line_shown (Calls name command) = book.Calls name.now command
line_shown (Asks control) = book.Asks control
line_shown Wrong = book.Wrong
