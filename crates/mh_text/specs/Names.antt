-- The names of sessions that were seen.
use Rattle.std.specs.{Prelude.{ℕ, List, [], ◌∷◌, map}, Borrow.Bor}
use Rattle.mh_model.specs.{Bytes.{Text, cut_after}, Script.{Line, Calls, line_of, with_name}}

-- the names of the sessions that these lines call, after some that were seen before: in the order in which they are first seen, eight at most
abbrev pub names_from : List Text → List Line → List Text
names_from names [] = names
names_from names (Calls name command ∷ lines) = names_from (with_name names name) lines
names_from names (other ∷ lines) = names_from names lines

-- The names of the sessions of a script. Its configuration calls none
abbrev pub names_in : Text → List Text
names_in text = names_from [] (map line_of (cut_after 10 text).pieces)

-- the texts that references point to
abbrev pub names_shown : List (Bor (List ℕ)) → List Text
names_shown names = map (λ name. name.now) names
