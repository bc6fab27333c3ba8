-- What an error says of a text.
use Rattle.std.specs.Prelude.{◌≡◌}
use Rattle.mh_model.specs.Script.{Reading, BadLine}
use Rattle.mh_text.specs.declared.text_error.TextError.{TextError, TheVariants.{Line, NoMemory}}

-- an error names the line at which a text is refused; refused memory says nothing of the text
abbrev pub Refuses : {X : Type 0} → Reading X → TextError → Type 0
Refuses reading (Line number) = reading ≡ BadLine number
Refuses reading NoMemory = Unit {0}
