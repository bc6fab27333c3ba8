-- The parts of a text, joined again, are the text, and a word that is a number after a byte is what is written of it.
use Rattle.std.proofs.Common.{◌≡◌, ◌∙◌, ℕ, ◌==◌, nat_lt, cond, Bool, true, Some, None, List, [], ◌∷◌, ◌++◌, ap, refl, decimal, arith}
use Rattle.std.proofs.lemmas.Bool.{eqb-true}
use Rattle.mh_model.specs.Bytes.{Text, Cut, cut_after, with_byte, parts_at, joined_at, joined, words, tagged, number}
use Rattle.mh_model.specs.Forms.{u64}
use Rattle.mh_text_laws.proofs.rewritings.NumbersWrittenAgain.{number_is}

-- Parts ------------------------------------------------------------------------------------------

joined-first : (byte c : ℕ) (part : Text) (parts : List Text) → joined_at byte ((c ∷ part) ∷ parts) ≡ c ∷ joined_at byte (part ∷ parts)
joined-first byte c part parts = grind arith

joined-none : (byte : ℕ) (pieces : List Text) (rest : Text) → joined_at byte ([] ∷ (pieces ++ rest ∷ [])) ≡ byte ∷ joined_at byte (pieces ++ rest ∷ [])
joined-none byte [] rest = refl
joined-none byte (piece ∷ pieces) rest = refl

abbrev all_parts : Cut → List Text
all_parts cut = cut.pieces ++ cut.rest ∷ []

joined-with_byte : (byte c : ℕ) (pieces : List Text) (rest : Text)
    → joined_at byte (all_parts (with_byte c (record { pieces = pieces; rest = rest }))) ≡ c ∷ joined_at byte (pieces ++ rest ∷ [])
joined-with_byte byte c pieces rest = grind (arith, joined-first)

joined_by : (byte c : ℕ) (is : Bool) (cut : Cut) → (c == byte) ≡ is
    → joined_at byte (all_parts (cond is (record { pieces = [] ∷ cut.pieces; rest = cut.rest }) (with_byte c cut))) ≡ c ∷ joined_at byte (all_parts cut)
joined_by byte c is cut e = grind (arith, eqb-true, joined-none, joined-with_byte)

pub joined-parts_at : (byte : ℕ) (text : Text) → joined_at byte (parts_at byte text) ≡ text
joined-parts_at byte [] = refl
joined-parts_at byte (c ∷ cs) = joined_by byte c (c == byte) (cut_after byte cs) refl ∙ ap (λ (text : Text). c ∷ text) (joined-parts_at byte cs)

pub joined-words : (line : Text) → joined (words line) ≡ line
joined-words line = joined-parts_at 32 line

-- Tags -------------------------------------------------------------------------------------------

tagged_by : (tag byte : ℕ) (bytes : Text) (n : ℕ) (is : Bool) → (byte == tag) ≡ is → cond is (number bytes) None ≡ Some n → (tag ∷ decimal n ≡ byte ∷ bytes) × (nat_lt n u64 ≡ true)
tagged_by tag byte bytes n is e h = grind (arith, eqb-true, number_is)

pub tagged_is : (tag : ℕ) (word : Text) (n : ℕ) → tagged tag word ≡ Some n → (tag ∷ decimal n ≡ word) × (nat_lt n u64 ≡ true)
tagged_is tag word n h = grind (arith, tagged_by)
