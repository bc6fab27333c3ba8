-- Words that are added to a text one by one.
use Rattle.std.proofs.Common.{◌≡◌, ◌∙◌, ℕ, ◌+◌, ◌<◌, List, [], ◌∷◌, ◌++◌, length, map, take, get_or, ap, sym, codes, decimal, append_assoc}
use Rattle.std.proofs.lemmas.List.{map-append, take_more}
use Rattle.mh_model.specs.Bytes.{Text, joined}
use Rattle.mh_model.proofs.TextLemmas.{joined-append}

-- a number more
pub words_more : (old verb : Text) (numbers : List ℕ) (i : ℕ) → i < length numbers
    → ((old ++ joined (verb ∷ map decimal (take i numbers))) ++ codes " ") ++ decimal (get_or numbers i 0) ≡ old ++ joined (verb ∷ map decimal (take (i + 1) numbers))
words_more old verb numbers i below =
    let first : List Text = map decimal (take i numbers) in
    let next : Text = decimal (get_or numbers i 0) in
    let cut : map decimal (take (i + 1) numbers) ≡ first ++ next ∷ [] = ap (map decimal) (take_more numbers i 0 below) ∙ map-append decimal (take i numbers) (get_or numbers i 0 ∷ []) in
    append_assoc (old ++ joined (verb ∷ first)) (codes " ") next ∙ append_assoc old (joined (verb ∷ first)) (32 ∷ next)
    ∙ ap (λ (text : Text). old ++ text) (sym (joined-append verb first next []) ∙ ap (λ (words : List Text). joined (verb ∷ words)) (sym cut))
