-- Words that aren't empty, each byte of which passes a test.
use Rattle.std.proofs.Common.{arith, ◌≡◌, ℕ, ◌==◌, nat_lt, not, ◌&&◌, Bool, true, false, Option, Some, None, option_map, option_and_then, List, [], ◌∷◌, refl, sym, ◌∙◌}
use Rattle.std.proofs.lemmas.Bool.{and_parts, and_from}
use Rattle.std.specs.{Prelude.if◌then◌else◌, List.list_all}
use Rattle.mh_model.specs.{Bytes.{Text, is_digit, is_numeral, value_after, number, numbers}, Forms.u64}
use Rattle.mh_text_laws.proofs.ListLemmas.{all_weaker}

abbrev pub is_full : Text → Bool
is_full [] = false
is_full (byte ∷ bytes) = true

abbrev pub is_sound : (ℕ → Bool) → Text → Bool
is_sound p word = is_full word && list_all p word

abbrev pub are_sound : (ℕ → Bool) → List Text → Bool
are_sound p words = list_all (is_sound p) words

-- each digit passes
abbrev pub TakesDigits : (ℕ → Bool) → Type 0
TakesDigits p = (byte : ℕ) → is_digit byte ≡ true → p byte ≡ true

pub unsound : {A : Type 0} (p : ℕ → Bool) (word : Text) → is_sound p word ≡ false → is_sound p word ≡ true → A
unsound p word is sound = absurd (let bad : false ≡ true = sym is ∙ sound in cc)

-- Numbers ----------------------------------------------------------------------------------------

numeral_sound : (p : ℕ → Bool) (digits : TakesDigits p) (word : Text) → is_numeral word ≡ true → is_sound p word ≡ true
numeral_sound p digits word is = grind (arith, and_from, and_parts, all_weaker)

number_by : (numeral short : Bool) (value : ℕ) → numeral ≡ false → (if numeral && short then Some value else None) ≡ None
number_by numeral short value is = grind arith

numeral_by : (p : ℕ → Bool) (digits : TakesDigits p) (is : Bool) (word : Text) → is_numeral word ≡ is → is_sound p word ≡ false → is ≡ false
numeral_by p digits is word same e = grind (arith, unsound, numeral_sound)

pub unsound_number : (p : ℕ → Bool) (digits : TakesDigits p) (word : Text) → is_sound p word ≡ false → number word ≡ None
unsound_number p digits word is = grind (arith, number_by, numeral_by)

numbers_by : (sound : Bool) (first : Option ℕ) (rest : Option (List ℕ)) (more : Bool) → sound && more ≡ false → (sound ≡ false → first ≡ None) → (more ≡ false → rest ≡ None)
    → option_and_then (λ n. option_map (λ ns. n ∷ ns) rest) first ≡ None
numbers_by sound first rest more is none later = grind arith

pub unsound_numbers : (p : ℕ → Bool) (digits : TakesDigits p) (words : List Text) → are_sound p words ≡ false → numbers words ≡ None
unsound_numbers p digits [] is = cc
unsound_numbers p digits (word ∷ words) is = grind (arith, numbers_by, unsound_number, unsound_numbers p digits words)
