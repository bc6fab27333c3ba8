-- Auxiliary definitions: what loops, private functions and the insides of types keep. No public contract depends on them.
use Rattle.std.specs.Prelude.{ℕ, Option, List, [], ◌∷◌, ◌≡◌, ◌==◌, Bool, true, not, ◌&&◌, ◌++◌}
use Rattle.mh_model.specs.{Bytes.{Text, parts_at}, Forms.{numbered, at, u64}, Replies.placed_from}
use Rattle.mh_history.specs.declared.dump.Placed.{Placed}

-- The numbers of a word of a dump.

-- a slot and two numbers, by a list of these three
abbrev pub placed_made : List ℕ → Placed
placed_made ns = record { slot = at ns 0; first = at ns 1; second = at ns 2 }

-- a slot, and after its mark two numbers with a point between them
abbrev pub placed_numbers : ℕ → Text → Option Placed
placed_numbers mark word = numbered (u64 ∷ u64 ∷ u64 ∷ []) placed_made (placed_from (parts_at mark word))

-- Entries cut at the word `=`.

-- no byte of a text is this one
abbrev pub lacks : ℕ → Text → Bool
lacks byte [] = true
lacks byte (b ∷ text) = not (b == byte) && lacks byte text

-- no byte of these texts is this one
abbrev pub all_lack : ℕ → List Text → Bool
all_lack byte [] = true
all_lack byte (text ∷ texts) = lacks byte text && all_lack byte texts

-- a line has ` = ` between these, and no byte `=` before that
pub record IsAroundEquals (line before after : Text) : Type 0 where
  pub line_is : line ≡ before ++ 32 ∷ 61 ∷ 32 ∷ after
  pub first : lacks 61 before ≡ true
