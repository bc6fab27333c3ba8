-- The names that a script has for its sessions, where these aren't the words that steps have for them.
use Rattle.std.specs.Prelude.{ℕ, suc, if◌then◌else◌, List, [], ◌∷◌, ◌++◌, codes, decimal}
use Rattle.mh_model.specs.Bytes.{Text, is_text}
use Rattle.mh_orders.specs.declared.steps.StepsForm.{StepsForm}

-- the word of the session of this number
abbrev pub session_word : ℕ → Text
session_word number = 115 ∷ decimal number

-- that a session with this word has this name. A name is of letters and digits, which JSON writes as they are
abbrev pub name_line : StepsForm → Text → Text → Text
name_line StepsForm.Text word name = codes "session " ++ (word ++ (codes " is " ++ (name ++ codes "\n")))
name_line StepsForm.Json word name = codes "{\"session\":\"" ++ (word ++ (codes "\",\"name\":\"" ++ (name ++ codes "\"}\n")))

-- the line that names the session of this number, and nothing if its name is its word
abbrev pub name_text : StepsForm → ℕ → Text → Text
name_text form number name = if is_text name (session_word number) then [] else name_line form (session_word number) name

-- The names of sessions in turn, of which the first has this number
abbrev pub names_text : StepsForm → ℕ → List Text → Text
names_text form number [] = []
names_text form number (name ∷ names) = name_text form number name ++ names_text form (suc number) names
