-- Auxiliary definitions: what loops, private functions and the insides of types keep. No public contract depends on them.
use Rattle.std.specs.Prelude.{◌≡◌, ℕ, true, Option, None, IfSome, List, [], ◌∷◌, get_or, map, Some, option_map, ◌++◌, ◌<◌, length, take, ◌==◌, if◌then◌else◌, codes}
use Rattle.std.specs.Borrow.{Bor}
use Rattle.mh_model.specs.Bytes.{Text, is_name, cut_after, words, number, is_text}
use Rattle.mh_model.specs.Script.{Line, Calls, line_of, session_number, with_name, Meaning, Reading, Means, reading_map, script_from, events_from}
use Rattle.mh_model.specs.{declared.command.Command.Command, declared.command.Event.Event}
use Rattle.mh_model.specs.Forms.{command_of, Row, within, are_below, command_rows, control_rows}
use Rattle.mh_model.specs.{declared.config.Config.Config, declared.command.Control.Control}
use Rattle.mh_model.specs.declared.history.Version.{Version}
use Rattle.mh_text.specs.{Pieces.{Lines, TakesLine, with_piece}, declared.script.Taken.Taken}
use Rattle.mh_text.specs.declared.verbs.VerbOfThree.{VerbOfThree}
use Rattle.mh_text.specs.declared.verbs.VerbOfThree.TheVariants.{New, Get, Put, Write}
use Rattle.mh_text.specs.declared.verbs.VerbOfTwo.{VerbOfTwo}
use Rattle.mh_text.specs.declared.verbs.VerbOfTwo.TheVariants.{Copy, Read, Same, Post, Take}
use Rattle.mh_text.specs.{declared.verbs.VerbOfOne.VerbOfOne, declared.verbs.VerbOfOne.TheVariants.{Clear, Shape}}
use Rattle.mh_text.specs.{declared.verbs.Verb.Verb, declared.verbs.Verb.TheVariants.{OfThree, OfTwo, OfOne}}
use Rattle.mh_model.specs.Script as book
use Rattle.mh_text.specs.declared.script.Taken.TheVariants as taken

-- a name that may name a session and is new no more, with its number
abbrev pub IsKnown : List Text → Text → ℕ → Type 0
IsKnown names name who = (is_name name ≡ true) × ((session_number names name ≡ who) × (with_name names name ≡ names))

-- each name of a table is known, with the number that stands beside it
abbrev pub AreKnown : List Text → List (Option (Bor (List ℕ) × ℕ)) → Type 0
AreKnown names table = (place : ℕ) → IfSome (get_or table place None) (λ numbered. IsKnown names numbered.0.now numbered.1)

-- the text that a reference points to, if there is one
abbrev pub text_shown : Option (Bor (List ℕ)) → Option Text
text_shown text = option_map (λ text. text.now) text

-- the words of a text, if there is one
abbrev pub words_left : Option Text → List Text
words_left None = []
words_left (Some text) = words text

-- Lines of commands in their plain form: a name that is known, a verb, and its numbers.

-- the first line of a text has these words, and this text follows it
pub record BeginsWithLine (text : Text) (said : List Text) (rest : Text) : Type 0 where
  pub line : Text
  pub cut : cut_after 10 text ≡ with_piece line (cut_after 10 rest)
  pub says : words line ≡ said

-- the first line of a text is this command, and this text follows it
pub record BeginsWithCommand (text : Text) (command : Command) (rest : Text) : Type 0 where
  pub said : List Text
  pub begins : BeginsWithLine text said rest
  pub is : command_of said ≡ Some command

-- a text begins with a name that is known, and after a space this text follows
pub record BeginsWithName (names : List Text) (text : Text) (who : ℕ) (rest : Text) : Type 0 where
  pub name : Text
  pub whole : text ≡ name ++ 32 ∷ rest
  pub known : IsKnown names name who

-- a text begins with a number, and after this byte this text follows
pub record BeginsWithNumberBefore (end : ℕ) (text : Text) (n : ℕ) (rest : Text) : Type 0 where
  pub word : Text
  pub whole : text ≡ word ++ end ∷ rest
  pub is : number word ≡ Some n

-- the next line is a command under a name that is known, as an event
pub record TakesEvent (names : List Text) (old new : Lines) (taken : Event) : Type 0 where
  pub line : Text
  pub takes : TakesLine old new old.number line
  pub name : Text
  pub command : Command
  pub says : book.line_of line ≡ book.Calls name command
  pub who : ℕ
  pub known : IsKnown names name who
  pub is : taken ≡ Event.Session who command

-- what is read of a script from the lines that are left, before its configuration
abbrev pub script_left : Lines → Reading Meaning
script_left left = script_from left.number left.lines left.rest

-- what is read of its events from the lines that are left, after the configuration
abbrev pub events_left : Lines → Reading (List Event)
events_left left = events_from [] left.number (map line_of left.lines) left.rest

-- what the events after this configuration make of a script
abbrev pub with_config : Config → Reading (List Event) → Reading Meaning
with_config config = reading_map (λ events. record { config = config; events = events })

-- the lines up to the configuration were read: what the lines after it make of a script
pub record TakesConfig (old new : Lines) (config : Config) : Type 0 where
  pub head : List Text
  pub lines : old.lines ≡ head ++ new.lines
  pub after : new.rest ≡ old.rest
  pub reads : (more : List Text) (rest : Text) → script_from old.number (head ++ more) rest ≡ with_config config (events_from [] new.number (map line_of more) rest)

-- some of these lines, from the first on, have events and no bad line
pub record HasEvent (left : Lines) : Type 0 where
  pub count : ℕ
  pub events : List Event
  pub read : events_from [] left.number (map line_of (take count left.lines)) [] ≡ Means events
  pub some : 0 < length events

-- Tables of forms by how many numbers their rows have.

-- what a word and numbers are by the first row with that word
abbrev pub said : {X : Type 0} → List (Row X) → Text → List ℕ → Option X
said [] verb ns = None
said (r ∷ rs) verb ns = if is_text verb r.verb then within (are_below r.bounds ns) (r.made ns) else said rs verb ns

-- the rows with so many numbers
abbrev pub rows_with_count : {X : Type 0} → ℕ → List (Row X) → List (Row X)
rows_with_count count [] = []
rows_with_count count (r ∷ rs) = if length r.bounds == count then r ∷ rows_with_count count rs else rows_with_count count rs

-- the commands with three, two, one and no numbers
abbrev pub three_rows : List (Row Command)
three_rows = rows_with_count 3 command_rows

abbrev pub two_rows : List (Row Command)
two_rows = rows_with_count 2 command_rows

abbrev pub one_rows : List (Row Command)
one_rows = rows_with_count 1 command_rows

abbrev pub no_rows : List (Row Command)
no_rows = rows_with_count 0 command_rows

-- the controls with no number
abbrev pub plain_rows : Version → List (Row Control)
plain_rows version = rows_with_count 0 (control_rows version)

-- What is taken of a script at once.

-- with these names seen, the next line is taken: as an event, or as it is
abbrev pub TakesNext : List Text → Lines → Lines → Taken → Type 0
TakesNext names old new (taken.Plain event) = TakesEvent names old new event
TakesNext names old new (taken.Line number line) = TakesLine old new number line.now

-- How verbs are written, by how many numbers follow them.

abbrev pub three_word : VerbOfThree → Text
three_word New = codes "new"
three_word Get = codes "get"
three_word Put = codes "put"
three_word Write = codes "write"

abbrev pub two_word : VerbOfTwo → Text
two_word Copy = codes "copy"
two_word Read = codes "read"
two_word Same = codes "same"
two_word Post = codes "post"
two_word Take = codes "take"

abbrev pub one_word : VerbOfOne → Text
one_word Clear = codes "clear"
one_word Shape = codes "shape"

abbrev pub verb_word : Verb → Text
verb_word (OfThree verb) = three_word verb
verb_word (OfTwo verb) = two_word verb
verb_word (OfOne verb) = one_word verb

-- the first of these words is this number, and the others are left
pub record BeginsWithNumber (words : List Text) (n : ℕ) (left : List Text) : Type 0 where
  pub word : Text
  pub taken : words ≡ word ∷ left
  pub is : number word ≡ Some n
