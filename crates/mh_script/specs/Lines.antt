-- Texts by lines: a head, a line for each element of a list, by which a state changes, and a last part.
use Rattle.std.specs.Prelude.{List, [], ◌∷◌, ◌++◌}
use Rattle.mh_model.specs.Bytes.{Text}

-- what an element makes of a state, its line there, and the last part
pub record Told (S X : Type 0) : Type 0 where
  pub next : S → X → S
  pub line : S → X → Text
  pub last : S → Text

-- the state after these elements
abbrev pub state_after : {S X : Type 0} → Told S X → S → List X → S
state_after told state [] = state
state_after told state (x ∷ xs) = state_after told (told.next state x) xs

-- the lines of these elements from a state on
abbrev pub lines_from : {S X : Type 0} → Told S X → S → List X → Text
lines_from told state [] = []
lines_from told state (x ∷ xs) = told.line state x ++ lines_from told (told.next state x) xs

-- The text of these elements
abbrev pub text_by_lines : {S X : Type 0} → Told S X → Text → S → List X → Text
text_by_lines told head first xs = (head ++ lines_from told first xs) ++ told.last (state_after told first xs)
