-- What the bytes of a word say of it.
use Rattle.std.proofs.Common.{◌≡◌, ℕ, suc, ◌+◌, ◌*◌, ◌-◌, ◌<◌, ◌≤◌, ◌==◌, nat_lt, nat_le, ◌&&◌, ◌||◌, Bool, true, false, Option, Some, None, option_map, option_and_then, cond, List, [], ◌∷◌, ◌++◌, length, get_or, ap, subst, sym, refl, ◌∙◌, append_assoc, arith}
use Rattle.std.proofs.{lemmas.List.append-nil, lemmas.Bool.Decides.nat_tests, Math.Bool.{and-false, and-true}}
use Rattle.std.specs.{Prelude.Decides, List.list_all}
use Rattle.mh_model.proofs.TextLemmas.{text_is, text_itself}
use Rattle.mh_model.specs.Bytes.{Text, is_text, is_digit, is_letter, is_numeral, is_name, value_after, number, numbers}
use Rattle.mh_text.specs.Words.{few_numbers}

-- a numeral of several digits begins with none that is 0
pub numeral_digits : (word : Text) → 0 < length word → (get_or word 0 0 == 48) ≡ false → is_numeral word ≡ list_all is_digit word
numeral_digits [] full other = absurd (omega arith)
numeral_digits (byte ∷ []) full other = sym (and-true (is_digit byte))
numeral_digits (byte ∷ next ∷ bytes) full other = rw other refl

pub numeral_zero : (word : Text) → 1 < length word → (get_or word 0 0 == 48) ≡ true → is_numeral word ≡ false
numeral_zero [] full zero = absurd (omega arith)
numeral_zero (byte ∷ []) full zero = absurd (omega arith)
numeral_zero (byte ∷ next ∷ bytes) full zero = rw zero (and-false (is_digit byte))

sixteen : (n : ℕ) → nat_lt n 16 ≡ nat_le (suc n) 16
sixteen n = grind (arith, nat_tests)

pub name_letter : (word : Text) → 0 < length word → is_letter (get_or word 0 0) ≡ true → is_name word ≡ (list_all (λ c. is_letter c || is_digit c) word && nat_le (length word) 16)
name_letter [] full letter = absurd (omega arith)
name_letter (byte ∷ bytes) full letter = rw (letter, sixteen (length bytes)) refl

pub name_other : (word : Text) → is_letter (get_or word 0 0) ≡ false → is_name word ≡ false
name_other [] other = refl
name_other (byte ∷ bytes) other = rw other refl

-- digits that follow others make no smaller number
pub value_after_grows : (n : ℕ) (word : Text) → n ≤ value_after n word
value_after_grows n [] = omega arith
value_after_grows n (byte ∷ bytes) = omega (arith, value_after_grows (10 * n + (byte - 48)) bytes)

append_twice : (found : List ℕ) (n : ℕ) (more : Option (List ℕ)) → option_map (λ ns. found ++ ns) (option_map (λ ns. n ∷ ns) more) ≡ option_map (λ ns. (found ++ n ∷ []) ++ ns) more
append_twice found n None = refl
append_twice found n (Some more) = ap Some (sym (append_assoc found (n ∷ []) more))

pub numbers_next : (found : List ℕ) (word : Text) (n : ℕ) (words : List Text) → number word ≡ Some n
    → option_map (λ more. found ++ more) (numbers (word ∷ words)) ≡ option_map (λ more. (found ++ n ∷ []) ++ more) (numbers words)
numbers_next found word n words is = rw is (append_twice found n (numbers words))

pub numbers_end : (found : List ℕ) → option_map (λ more. found ++ more) (numbers []) ≡ Some found
numbers_end found = ap Some (append-nil found)

-- a list of answers has as many numbers as there are words
length_next : (first : Option ℕ) (more : Option (List ℕ)) (count : ℕ) (found : List ℕ) → ((ns : List ℕ) → more ≡ Some ns → length ns ≡ count)
    → option_and_then (λ n. option_map (λ ns. n ∷ ns) more) first ≡ Some found → length found ≡ suc count
length_next None more count found same is = cc
length_next (Some n) None count found same is = cc
length_next (Some n) (Some ns) count found same is = grind arith

pub length_numbers : (words : List Text) (found : List ℕ) → numbers words ≡ Some found → length found ≡ length words
length_numbers [] found is = let none : [] ≡ found = cc in rw (← none) refl
length_numbers (word ∷ words) found is = length_next (number word) (numbers words) (length words) found (length_numbers words) is

none_by : {X : Type 0} (form : List ℕ → Option X) → ((found : List ℕ) → 4 < length found → form found ≡ None)
    → (is : Bool) (count : ℕ) (all : Option (List ℕ)) → is ≡ nat_le count 4 → ((found : List ℕ) → all ≡ Some found → length found ≡ count) → cond is all None ≡ None → option_and_then form all ≡ None
none_by form many true count all few same none = rw none refl
none_by form many false count None few same none = refl
none_by form many false count (Some found) few same none = many found (let one : length found ≡ count = same found refl in grind (arith, nat_tests))

-- what takes four numbers at most is none of words that are not so many numbers
pub none_of : {X : Type 0} (form : List ℕ → Option X) → ((found : List ℕ) → 4 < length found → form found ≡ None) → (words : List Text) → few_numbers words ≡ None → option_and_then form (numbers words) ≡ None
none_of form many words none = none_by form many (nat_le (length words) 4) (length words) (numbers words) refl (length_numbers words) none

same_by : (is : Bool) (all : Option (List ℕ)) (ns : List ℕ) → cond is all None ≡ Some ns → all ≡ Some ns
same_by true all ns few = few
same_by false all ns few = cc

pub few_same : (words : List Text) (ns : List ℕ) → few_numbers words ≡ Some ns → numbers words ≡ Some ns
few_same words ns few = same_by (nat_le (length words) 4) (numbers words) ns few

-- Words that are the same ------------------------------------------------------------------------

tested_by : (r is : Bool) (word other : Text) → is_text word other ≡ is → Decides r (word ≡ other) → r ≡ is
tested_by true true word other test same = refl
tested_by false false word other test same = refl
tested_by true false word other test same = sym (subst (λ (o : Text). is_text word o ≡ true) (same.0 refl) (text_itself word)) ∙ test
tested_by false true word other test same = same.1 (text_is word other test)

-- a test of two words by their bytes
pub same_words : (r : Bool) (word other : Text) → Decides r (word ≡ other) → r ≡ is_text word other
same_words r word other same = tested_by r (is_text word other) word other refl same
