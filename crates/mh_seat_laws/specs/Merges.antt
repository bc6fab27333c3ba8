-- Merges: histories that are put together from logs and keep each log's order.
use Rattle.std.specs.Prelude.{◌≡◌, ℕ, List, [], ◌∷◌, get_or, set}

-- An entry stands first in the log of a seat, and the rest of that log follows it
pub record StandsFirst {E : Type 0} (logs : List (List E)) (entry : E) : Type 0 where
  pub seat : ℕ
  pub rest : List E
  pub log : get_or logs seat [] ≡ entry ∷ rest

-- A merge of logs begins with the first entry of one of them, and goes on with what is then left of the logs. It ends when none has an entry left
abbrev pub IsMerge : {E : Type 0} → List (List E) → List E → Type 0
IsMerge logs [] = (seat : ℕ) → get_or logs seat [] ≡ []
IsMerge logs (entry ∷ history) = (first : StandsFirst logs entry) × IsMerge (set logs first.seat first.rest) history
