-- The forms of commands and controls: a word and the numbers after it. Scripts and histories share them.
-- A table of forms gives, for each first word, what the words after it mean.
use Rattle.std.specs.Prelude.{ℕ, ◌^◌, nat_lt, Bool, true, false, ◌&&◌, if◌then◌else◌, Option, Some, None, option_and_then, List, [], ◌∷◌, map, get_or, codes, decimal}
use Rattle.mh_model.specs.{declared.command.Command.Command, declared.command.Control.Control}
use Rattle.mh_model.specs.{declared.history.Version.Version, declared.history.Version.TheVariants.{One, Two}}
use Rattle.mh_model.specs.Bytes.{Text, is_text, numbers}

-- Forms ------------------------------------------------------------------------------------------

-- a value if a test holds
abbrev pub within : {X : Type 0} → Bool → X → Option X
within true x = Some x
within false x = None

-- a first word, and what the words after it mean
pub record Form (X : Type 0) : Type 0 where
  pub verb : Text
  pub meaning : List Text → Option X

-- the first form with this word
abbrev pub form_of : {X : Type 0} → Text → List (Form X) → Option (Form X)
form_of verb [] = None
form_of verb (form ∷ forms) = if is_text verb form.verb then Some form else form_of verb forms

-- what words mean by the forms of a table
abbrev pub formed : {X : Type 0} → List (Form X) → List Text → Option X
formed forms [] = None
formed forms (verb ∷ words) = option_and_then (λ form. form.meaning words) (form_of verb forms)

-- as many numbers as bounds, each below its own
abbrev pub are_below : List ℕ → List ℕ → Bool
are_below [] [] = true
are_below [] (n ∷ ns) = false
are_below (bound ∷ bounds) [] = false
are_below (bound ∷ bounds) (n ∷ ns) = nat_lt n bound && are_below bounds ns

-- words that are numbers below these bounds
abbrev pub numbered : {X : Type 0} → List ℕ → (List ℕ → X) → List Text → Option X
numbered bounds made words = option_and_then (λ ns. within (are_below bounds ns) (made ns)) (numbers words)

-- a form: a first word, and numbers below these bounds after it
abbrev pub with_numbers : {X : Type 0} → Text → List ℕ → (List ℕ → X) → Form X
with_numbers verb bounds made = record { verb = verb; meaning = numbered bounds made }

-- a row of a table of forms: a first word, bounds of the numbers after it, and what these make
pub record Row (X : Type 0) : Type 0 where
  pub verb : Text
  pub bounds : List ℕ
  pub made : List ℕ → X

abbrev pub row : {X : Type 0} → Text → List ℕ → (List ℕ → X) → Row X
row verb bounds made = record { verb = verb; bounds = bounds; made = made }

-- the form that a row is
abbrev pub row_form : {X : Type 0} → Row X → Form X
row_form r = with_numbers r.verb r.bounds r.made

-- past the greatest u32 and the greatest u64
abbrev pub u32 : ℕ
u32 = 2 ^ 32

abbrev pub u64 : ℕ
u64 = 2 ^ 64

-- number i of a list, and 0 if it has none
abbrev pub at : List ℕ → ℕ → ℕ
at ns i = get_or ns i 0

-- how something is written: a word, and numbers each below a bound
pub record Phrase : Type 0 where
  pub verb : Text
  pub bounds : List ℕ
  pub numbers : List ℕ

abbrev pub phrase : Text → List ℕ → List ℕ → Phrase
phrase verb bounds ns = record { verb = verb; bounds = bounds; numbers = ns }

-- a phrase as words: its first word, and its numbers in decimal
abbrev pub phrase_words : Phrase → List Text
phrase_words said = said.verb ∷ map decimal said.numbers

-- the numbers of a phrase are in the range of their types: each is below its bound
abbrev pub is_sayable : Phrase → Bool
is_sayable said = are_below said.bounds said.numbers

-- Commands ---------------------------------------------------------------------------------------

-- the twelve commands, as rows and as forms
abbrev pub command_rows : List (Row Command)
command_rows =
    row (codes "new") (u32 ∷ u32 ∷ u32 ∷ []) (λ ns. Command.New (at ns 0) (at ns 1) (at ns 2))
    ∷ row (codes "get") (u32 ∷ u32 ∷ u32 ∷ []) (λ ns. Command.Get (at ns 0) (at ns 1) (at ns 2))
    ∷ row (codes "put") (u32 ∷ u32 ∷ u32 ∷ []) (λ ns. Command.Put (at ns 0) (at ns 1) (at ns 2))
    ∷ row (codes "copy") (u32 ∷ u32 ∷ []) (λ ns. Command.Copy (at ns 0) (at ns 1))
    ∷ row (codes "clear") (u32 ∷ []) (λ ns. Command.Clear (at ns 0))
    ∷ row (codes "read") (u32 ∷ u32 ∷ []) (λ ns. Command.Read (at ns 0) (at ns 1))
    ∷ row (codes "write") (u32 ∷ u32 ∷ u64 ∷ []) (λ ns. Command.Write (at ns 0) (at ns 1) (at ns 2))
    ∷ row (codes "same") (u32 ∷ u32 ∷ []) (λ ns. Command.Same (at ns 0) (at ns 1))
    ∷ row (codes "shape") (u32 ∷ []) (λ ns. Command.Shape (at ns 0))
    ∷ row (codes "post") (u32 ∷ u32 ∷ []) (λ ns. Command.Post (at ns 0) (at ns 1))
    ∷ row (codes "take") (u32 ∷ u32 ∷ []) (λ ns. Command.Take (at ns 0) (at ns 1))
    ∷ row (codes "end") [] (λ ns. Command.End)
    ∷ []

abbrev pub command_forms : List (Form Command)
command_forms = map row_form command_rows

-- how a command is written
abbrev pub command_phrase : Command → Phrase
command_phrase (Command.New slot references numbers) = phrase (codes "new") (u32 ∷ u32 ∷ u32 ∷ []) (slot ∷ references ∷ numbers ∷ [])
command_phrase (Command.Get slot source field) = phrase (codes "get") (u32 ∷ u32 ∷ u32 ∷ []) (slot ∷ source ∷ field ∷ [])
command_phrase (Command.Put slot field value) = phrase (codes "put") (u32 ∷ u32 ∷ u32 ∷ []) (slot ∷ field ∷ value ∷ [])
command_phrase (Command.Copy slot source) = phrase (codes "copy") (u32 ∷ u32 ∷ []) (slot ∷ source ∷ [])
command_phrase (Command.Clear slot) = phrase (codes "clear") (u32 ∷ []) (slot ∷ [])
command_phrase (Command.Read slot index) = phrase (codes "read") (u32 ∷ u32 ∷ []) (slot ∷ index ∷ [])
command_phrase (Command.Write slot index number) = phrase (codes "write") (u32 ∷ u32 ∷ u64 ∷ []) (slot ∷ index ∷ number ∷ [])
command_phrase (Command.Same left right) = phrase (codes "same") (u32 ∷ u32 ∷ []) (left ∷ right ∷ [])
command_phrase (Command.Shape slot) = phrase (codes "shape") (u32 ∷ []) (slot ∷ [])
command_phrase (Command.Post board slot) = phrase (codes "post") (u32 ∷ u32 ∷ []) (board ∷ slot ∷ [])
command_phrase (Command.Take slot board) = phrase (codes "take") (u32 ∷ u32 ∷ []) (slot ∷ board ∷ [])
command_phrase Command.End = phrase (codes "end") [] []

-- the command that words are the form of
abbrev pub command_of : List Text → Option Command
command_of words = formed command_forms words

-- Controls ---------------------------------------------------------------------------------------

-- what the second version knows, as scripts do, and the first does not
abbrev pub where_known : {X : Type 0} → Version → X → List X
where_known One x = []
where_known Two x = x ∷ []

-- the controls, as rows and as forms, of which the first version of histories knows one less: `left`
abbrev pub control_rows : Version → List (Row Control)
control_rows version =
    row (codes "quantum") [] (λ ns. Control.Quantum)
    ∷ row (codes "start") [] (λ ns. Control.Start)
    ∷ row (codes "stat") [] (λ ns. Control.Stat)
    ∷ row (codes "dump") [] (λ ns. Control.Dump)
    ∷ row (codes "report") (u64 ∷ []) (λ ns. Control.Report (at ns 0))
    ∷ where_known version (row (codes "left") [] (λ ns. Control.Left))

abbrev pub control_forms : Version → List (Form Control)
control_forms version = map row_form (control_rows version)

-- how a control is written
abbrev pub control_phrase : Control → Phrase
control_phrase Control.Quantum = phrase (codes "quantum") [] []
control_phrase Control.Start = phrase (codes "start") [] []
control_phrase Control.Stat = phrase (codes "stat") [] []
control_phrase Control.Dump = phrase (codes "dump") [] []
control_phrase Control.Left = phrase (codes "left") [] []
control_phrase (Control.Report window) = phrase (codes "report") (u64 ∷ []) (window ∷ [])

-- the control that words are the form of, in a version
abbrev pub control_of : Version → List Text → Option Control
control_of version words = formed (control_forms version) words

-- a version knows a control: the first all but `Left`
abbrev pub knows_control : Version → Control → Bool
knows_control One Control.Left = false
knows_control _ _ = true
