-- Texts that are one, and words joined.
use Rattle.std.proofs.Common.{◌≡◌, true, List, [], ◌∷◌, ◌++◌, ap, sym, refl, ◌∙◌, append_assoc}
use Rattle.std.proofs.lemmas.Bool.{and_parts, and_from, eqb-true, eq-eqb}
use Rattle.mh_model.specs.Bytes.{Text, is_text, joined}

-- texts that pass the test are one text
pub text_is : (x y : Text) → is_text x y ≡ true → x ≡ y
text_is [] [] h = refl
text_is [] (b ∷ ys) h = cc
text_is (a ∷ xs) [] h = cc
text_is (a ∷ xs) (b ∷ ys) h =
    let both = and_parts _ _ h in
    let one : a ≡ b = eqb-true a b both.0 in
    let more : xs ≡ ys = text_is xs ys both.1 in
    cc

-- and each passes it against itself
pub text_itself : (text : Text) → is_text text text ≡ true
text_itself [] = refl
text_itself (byte ∷ bytes) = and_from _ _ (eq-eqb byte byte refl) (text_itself bytes)

pub joined-append : (word : Text) (words : List Text) (next : Text) (more : List Text) → joined ((word ∷ words) ++ next ∷ more) ≡ joined (word ∷ words) ++ 32 ∷ joined (next ∷ more)
joined-append word [] next more = refl
joined-append word (second ∷ words) next more =
    ap (λ (text : Text). word ++ 32 ∷ text) (joined-append second words next more) ∙ sym (append_assoc word (32 ∷ joined (second ∷ words)) (32 ∷ joined (next ∷ more)))
