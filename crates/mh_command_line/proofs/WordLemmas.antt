-- Words that are read one by one.
use Rattle.std.proofs.Common.{◌≡◌, ◌∙◌, ℕ, ◌+◌, ◌<◌, ◌≤◌, List, [], ◌∷◌, ◌++◌, codes, drop, length, take, ap, arith, inl, inr, sym}
use Rattle.std.proofs.lemmas.List.{drop-append-le, length-take-le, take_all, take_more}
use Rattle.std.proofs.lemmas.Option.{get_or_from_slice_get, slice_get_cases, slice_get_within}
use Rattle.std.specs.Prelude.{IsUtf8, Option, Some, None}
use Rattle.mh_model.specs.Bytes.{Text}
use Rattle.mh_command_line.specs.{Arguments.{AreWords, HasNoText}, Auxiliary.{AreRead, IsArgument}}

pub none_read : (known : Option (List Text)) (words : List Text) → words ≡ codes "metroheap" ∷ [] → AreRead known 1 words
none_read None words is = tt
none_read (Some []) words is = is
none_read (Some (word ∷ rest)) words is = is

pub one_read : (known : Option (List Text)) (index : ℕ) (words words' : List Text) (word : Text) → 1 ≤ index → AreRead known index words → IsArgument known index (Some word) → words' ≡ words ++ word ∷ [] → AreRead known (index + 1) words'
one_read None index words words' word some are is pushed = tt
one_read (Some known) index words words' word some are is pushed =
    let there : index < length known = slice_get_within known index word is in
    let more : take (index + 1) known ≡ take index known ++ word ∷ [] = take_more known index word there ∙ ap (λ w. take index known ++ w ∷ []) (get_or_from_slice_get known index word word is) in
    let long : 1 ≤ length (take index known) = omega (arith, some, there, length-take-le index known (omega (arith, there))) in
    pushed ∙ (ap (λ ws. ws ++ word ∷ []) are ∙ ap (λ ws. codes "metroheap" ∷ ws) (sym (ap (drop 1) more ∙ drop-append-le 1 (take index known) (word ∷ []) long)))

pub all_read : (known : Option (List Text)) (index : ℕ) (words : List Text) → AreRead known index words → IsArgument known index None → AreWords known words
all_read None index words are is = tt
all_read (Some known) index words are is = elim (slice_get_cases known index).1 [
  | inl found ↦ let some : Some found.0 ≡ None = sym found.2 ∙ is in absurd cc
  | inr past ↦ are ∙ ap (λ ws. codes "metroheap" ∷ drop 1 ws) (take_all index known past.0)
]

pub no_text : (known : Option (List Text)) (index : ℕ) (bytes : Text) → 0 < index → IsArgument known index (Some bytes) → ¬ IsUtf8 bytes → HasNoText known
no_text None index bytes some is other = tt
no_text (Some known) index bytes some is other = (index, bytes, some, is, other)
