-- A text is its whole lines and what follows them, and no line has the byte that ends it.
use Rattle.std.proofs.Common.{◌≡◌, ◌∙◌, ℕ, ◌==◌, cond, Bool, true, false, List, [], ◌∷◌, ◌++◌, ap, refl, arith}
use Rattle.std.proofs.lemmas.Bool.{eqb-true}
use Rattle.mh_model.specs.Bytes.{Text, Cut, cut_after, with_byte, lines_text}
use Rattle.mh_text_laws.proofs.round_trips.WordRoundTrips.{are_free}

-- a cut after one byte more, with the answer to the test whether a piece ends there
abbrev cut_by : ℕ → Bool → Cut → Cut
cut_by byte ends cut = cond ends (record { pieces = [] ∷ cut.pieces; rest = cut.rest }) (with_byte byte cut)

-- the text of a cut
abbrev whole : Cut → Text
whole cut = lines_text cut.pieces ++ cut.rest

whole-with_byte : (byte : ℕ) (pieces : List Text) (rest : Text) → whole (with_byte byte (record { pieces = pieces; rest = rest })) ≡ byte ∷ (lines_text pieces ++ rest)
whole-with_byte byte pieces rest = grind arith

whole-cut_by : (byte : ℕ) (ends : Bool) (cut : Cut) → (ends ≡ true → byte ≡ 10) → whole (cut_by byte ends cut) ≡ byte ∷ whole cut
whole-cut_by byte ends cut same = grind (arith, whole-with_byte)

pub text_is_lines : (text : Text) → lines_text (cut_after 10 text).pieces ++ (cut_after 10 text).rest ≡ text
text_is_lines [] = refl
text_is_lines (byte ∷ bytes) = whole-cut_by byte (byte == 10) (cut_after 10 bytes) (eqb-true byte 10) ∙ ap (λ (found : Text). byte ∷ found) (text_is_lines bytes)

free-with_byte : (byte end : ℕ) (pieces : List Text) (rest : Text) → (byte == end) ≡ false → are_free end pieces ≡ true
    → are_free end (with_byte byte (record { pieces = pieces; rest = rest })).pieces ≡ true
free-with_byte byte end pieces rest other h = grind arith

free-cut_by : (byte end : ℕ) (ends : Bool) (cut : Cut) → (byte == end) ≡ ends → are_free end cut.pieces ≡ true → are_free end (cut_by byte ends cut).pieces ≡ true
free-cut_by byte end ends cut same h = grind (arith, free-with_byte)

pub pieces_free : (end : ℕ) (text : Text) → are_free end (cut_after end text).pieces ≡ true
pieces_free end [] = refl
pieces_free end (byte ∷ bytes) = free-cut_by byte end (byte == end) (cut_after end bytes) refl (pieces_free end bytes)
