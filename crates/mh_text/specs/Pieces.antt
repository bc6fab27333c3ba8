-- What is left of a text that is read piece by piece.
use Rattle.std.specs.Prelude.{◌≡◌, ℕ, suc, List, ◌∷◌}
use Rattle.mh_model.specs.Bytes.{Text, Cut, cut_after}

-- a cut with one more piece in front
abbrev pub with_piece : Text → Cut → Cut
with_piece piece cut = record { pieces = piece ∷ cut.pieces; rest = cut.rest }

-- the lines of a script that are left, the number of the first of them, and what stands after the last
pub record Lines : Type 0 where
  pub number : ℕ
  pub lines : List Text
  pub rest : Text

-- the lines of a text with their numbers, of which the first has this one
abbrev pub lines_from : ℕ → Text → Lines
lines_from number text = record { number = number; lines = (cut_after 10 text).pieces; rest = (cut_after 10 text).rest }

-- reading one line leaves the lines after it
pub record TakesLine (old new : Lines) (number : ℕ) (line : Text) : Type 0 where
  pub numbered : number ≡ old.number
  pub taken : old.lines ≡ line ∷ new.lines
  pub after : new.rest ≡ old.rest
  pub counted : new.number ≡ suc old.number
