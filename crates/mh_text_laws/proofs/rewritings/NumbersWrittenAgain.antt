-- Words that are read as numbers are what is written of these.
use Rattle.std.proofs.Common.{◌≡◌, ◌∙◌, ℕ, suc, ◌<◌, ◌^◌, nat_lt, ◌&&◌, Bool, true, Option, Some, option_map, option_and_then, List, [], ◌∷◌, length, get_or, map, ap, sym, decimal, arith}
use Rattle.std.proofs.{lemmas.Bool.{and_parts, and_from, not-true, eqb-false, ltb-true}, lemmas.List.length-map}
use Rattle.std.proofs.{lemmas.Option.{cond_some, option_and_then_some}, lemmas.Fmt.decimal-digits_value}
use Rattle.std.specs.List.{list_all}
use Rattle.mh_model.specs.{Forms.{u64, within, are_below, numbered}, Replies.are_u64}
use Rattle.mh_model.specs.Bytes.{Text, is_digit, is_numeral, value_after, number, numbers}
use Rattle.mh_text_laws.proofs.round_trips.WordRoundTrips.{numerals}

-- Numbers ----------------------------------------------------------------------------------------

record IsNumeral (word : Text) : Type 0 where
  digits : list_all is_digit word ≡ true
  some : 0 < length word
  one : get_or word 0 0 ≡ 48 → length word ≡ 1

numeral_is : (word : Text) → is_numeral word ≡ true → IsNumeral word
numeral_is word h = grind (arith, and_from, and_parts, not-true, eqb-false)

pub number_is : (word : Text) (n : ℕ) → number word ≡ Some n → (decimal n ≡ word) × (nat_lt n u64 ≡ true)
number_is word n h =
    let found = cond_some (is_numeral word && nat_lt (value_after 0 word) (2 ^ 64)) (value_after 0 word) n h in
    let both = and_parts (is_numeral word) (nat_lt (value_after 0 word) (2 ^ 64)) found.0 in
    let numeral = numeral_is word both.0 in
    let small = ltb-true (value_after 0 word) (2 ^ 64) both.1 in
    let written = decimal-digits_value numerals word numeral.digits numeral.some numeral.one small in
    (ap decimal (sym found.1) ∙ written, ap (λ (m : ℕ). nat_lt m u64) (sym found.1) ∙ both.1)

-- Options ----------------------------------------------------------------------------------------

-- what a value is made of, that a chain of options gives
pub record IsMade {X Y : Type 0} (made : X → Y) (found : Option X) (y : Y) : Type 0 where
  pub from : X
  pub is : found ≡ Some from
  pub same : made from ≡ y

pub mapped : {X Y : Type 0} (f : X → Y) (found : Option X) (y : Y) → option_map f found ≡ Some y → IsMade f found y
mapped f found y h = grind arith

pub record IsChained {X Y : Type 0} (next : X → Option Y) (found : Option X) (y : Y) : Type 0 where
  pub from : X
  pub is : found ≡ Some from
  pub then : next from ≡ Some y

pub chained : {X Y : Type 0} (next : X → Option Y) (found : Option X) (y : Y) → option_and_then next found ≡ Some y → IsChained next found y
chained next found y h = option_and_then_some next found y h (λ x is then. record { from = x; is = is; then = then })

pub within_is : {X : Type 0} (test : Bool) (a x : X) → within test a ≡ Some x → (test ≡ true) × (a ≡ x)
within_is test a x h = grind arith

-- Lists of numbers -------------------------------------------------------------------------------

pub numbers_are : (words : List Text) (ns : List ℕ) → numbers words ≡ Some ns → (map decimal ns ≡ words) × (are_u64 ns ≡ true)
numbers_are [] ns h = let none : [] ≡ ns = cc in (ap (map decimal) (sym none), ap are_u64 (sym none))
numbers_are (word ∷ words) ns h =
    let first = chained (λ n. option_map (λ ms. n ∷ ms) (numbers words)) (number word) ns h in
    let later = mapped (λ ms. first.from ∷ ms) (numbers words) ns first.then in
    let one = number_is word first.from first.is in
    let more = numbers_are words later.from later.is in
    grind (arith, one, and_from)

-- the numbers of a form, which words are
pub record AreNumbers {X : Type 0} (bounds : List ℕ) (made : List ℕ → X) (words : List Text) (x : X) : Type 0 where
  pub numbers : List ℕ
  pub same : made numbers ≡ x
  pub below : are_below bounds numbers ≡ true
  pub written : map decimal numbers ≡ words

pub numbered_is : {X : Type 0} (bounds : List ℕ) (made : List ℕ → X) (words : List Text) (x : X) → numbered bounds made words ≡ Some x → AreNumbers bounds made words x
numbered_is bounds made words x h = grind (arith, chained, within_is, numbers_are)

-- As many numbers as a list has elements ----------------------------------------------------------

-- what is true of any numbers, as many as are in a list
abbrev pub OfEach : {S : Type 0} → List S → (List ℕ → Type 0) → Type 0
OfEach [] P = P []
OfEach (s ∷ shape) P = (n : ℕ) → OfEach shape (λ ns. P (n ∷ ns))

pub of_each : {S : Type 0} (shape : List S) (P : List ℕ → Type 0) → OfEach shape P → (ns : List ℕ) → length ns ≡ length shape → P ns
of_each [] P all [] same = all
of_each (s ∷ shape) P all (n ∷ ns) same = of_each shape (λ ns. P (n ∷ ns)) (all n) ns (omega arith)
of_each shape P all ns same = absurd (omega arith)

pub length-below : (bounds ns : List ℕ) → are_below bounds ns ≡ true → length ns ≡ length bounds
length-below (b ∷ bounds) (n ∷ ns) h = ap suc (length-below bounds ns (and_parts _ _ h).1)
length-below bounds ns h = grind arith

pub length-decimals : (ns : List ℕ) (words : List Text) → map decimal ns ≡ words → length ns ≡ length words
length-decimals ns words h = sym (length-map ns decimal) ∙ ap length h
