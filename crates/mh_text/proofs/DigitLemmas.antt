-- Digits that a text begins with, and the number that the first word of a line is.
use Rattle.std.proofs.Common.{◌≡◌, ◌⊎◌, ℕ, zero, suc, ◌+◌, ◌*◌, ◌-◌, ◌^◌, ◌<◌, ◌≤◌, ◌==◌, not, ◌&&◌, cond, Bool, true, false, Some, None, option_map, List, [], ◌∷◌, ◌++◌, length, get_or, take, drop, ap, sym, refl, subst, ◌∙◌, ⊎_elim, inl, inr, add-one, take-append-drop, drop-cons, arith}
use Rattle.std.proofs.lemmas.List.{get_or-take, length-take-le, take-take, take_all, take_rest}
use Rattle.std.proofs.lemmas.List.Sums.{passes_at_first, position_or_len_is, prefix_len-le-length, prefix_len_passes, prefix_len_stops}
use Rattle.std.proofs.{lemmas.Bool.Decides.nat_tests, lemmas.Bool.cases_lt, lemmas.Grind.common_steps}
use Rattle.std.proofs.{Math.Nat.eq-or-lt_of_le, Math.Bool.{and-false, and-true}}
use Rattle.std.specs.List.{list_all, prefix_len, take_while}
use Rattle.mh_model.specs.Bytes.{Text, cut_after, words, is_digit, is_numeral, value_after, number, numbers}
use Rattle.mh_text.specs.{Pieces.with_piece, Auxiliary.BeginsWithNumber}
use Rattle.mh_text.proofs.PieceLemmas.{before, cut_first, cut_none}
use Rattle.mh_text.proofs.WordLemmas.{numbers_next as word_next, numeral_digits, numeral_zero, value_after_grows}

-- Digits one by one ------------------------------------------------------------------------------

pub value_next : (n place : ℕ) (text : Text) → place < length text → is_digit (get_or text place 0) ≡ true
    → value_after n (take_while is_digit (drop place text)) ≡ value_after (10 * n + (get_or text place 0 - 48)) (take_while is_digit (drop (place + 1) text))
value_next n place text below digit = grind (arith, add-one, drop-cons)

pub value_step : (n v place : ℕ) (text : Text) → place < length text → v ≡ 10 * n + (get_or text place 0 - 48) → is_digit (get_or text place 0) ≡ true
    → value_after n (take_while is_digit (drop place text)) ≡ value_after v (take_while is_digit (drop (place + 1) text))
value_step n v place text below is digit = value_next n place text below digit ∙ ap (λ m. value_after m (take_while is_digit (drop (place + 1) text))) (sym is)

pub count_next : (place : ℕ) (text : Text) → place < length text → is_digit (get_or text place 0) ≡ true
    → prefix_len is_digit (drop place text) ≡ 1 + prefix_len is_digit (drop (place + 1) text)
count_next place text below digit = rw (add-one, drop-cons text place 0, digit) refl

pub value_stop : (n place : ℕ) (text : Text) → place < length text → is_digit (get_or text place 0) ≡ false → value_after n (take_while is_digit (drop place text)) ≡ n
value_stop n place text below other = rw (drop-cons text place 0, other) refl

pub count_stop : (place : ℕ) (text : Text) → place < length text → is_digit (get_or text place 0) ≡ false → prefix_len is_digit (drop place text) ≡ 0
count_stop place text below other = rw (drop-cons text place 0, other) refl

pub value_end : (n place : ℕ) (text : Text) → length text ≤ place → value_after n (take_while is_digit (drop place text)) ≡ n
value_end n place text past = let none : drop place text ≡ [] = grind (arith, common_steps) in rw none refl

pub count_end : (place : ℕ) (text : Text) → length text ≤ place → prefix_len is_digit (drop place text) ≡ 0
count_end place text past = let none : drop place text ≡ [] = grind (arith, common_steps) in rw none refl

-- Numerals ---------------------------------------------------------------------------------------

all_by : (is : Bool) (byte : ℕ) (bytes : Text) → is_digit byte ≡ is → list_all is_digit (take_while is_digit bytes) ≡ true → list_all is_digit (take (cond is (1 + prefix_len is_digit bytes) 0) (byte ∷ bytes)) ≡ true
all_by true byte bytes same rest = grind arith
all_by false byte bytes same rest = refl

all_digits : (text : Text) → list_all is_digit (take_while is_digit text) ≡ true
all_digits [] = refl
all_digits (byte ∷ bytes) = all_by (is_digit byte) byte bytes refl (all_digits bytes)

one_numeral : (word : Text) → length word ≡ 1 → list_all is_digit word ≡ true → is_numeral word ≡ true
one_numeral [] one all = absurd (omega arith)
one_numeral (byte ∷ []) one all = sym (and-true (is_digit byte)) ∙ all
one_numeral (byte ∷ next ∷ bytes) one all = absurd (omega arith)

more_by : (word : Text) (is : Bool) → (get_or word 0 0 == 48) ≡ is → 1 < length word → list_all is_digit word ≡ true → is_numeral word ≡ not is
more_by word true first more all = numeral_zero word more first
more_by word false first more all = numeral_digits word (omega arith) first ∙ all

pub numeral_one : (text : Text) → 1 ≡ prefix_len is_digit text → is_numeral (take 1 text) ≡ true
numeral_one text one = grind (arith, all_digits, one_numeral, length-take-le, prefix_len-le-length)

pub numeral_more : (text : Text) (count : ℕ) → count ≡ prefix_len is_digit text → 1 < count → is_numeral (take count text) ≡ not (get_or text 0 0 == 48)
numeral_more text count is more =
    let within : count ≤ length text = omega (arith, prefix_len-le-length is_digit text) in
    let long : length (take count text) ≡ count = length-take-le count text within in
    grind (arith, get_or-take, all_digits, more_by)

-- a word with a byte that is no digit is no numeral
none_all : (word : Text) (place : ℕ) → place < length word → is_digit (get_or word place 0) ≡ false → list_all is_digit word ≡ false
none_all [] place below other = absurd (omega arith)
none_all (byte ∷ bytes) zero below other = rw other refl
none_all (byte ∷ bytes) (suc place) below other = rw (none_all bytes place (omega arith) other) (and-false (is_digit byte))

not_all_by : (first other rest : Bool) → (first && rest) ≡ false → (first && (other && rest)) ≡ false
not_all_by true true rest none = none
not_all_by true false rest none = refl
not_all_by false other rest none = refl

not_numeral : (word : Text) → list_all is_digit word ≡ false → is_numeral word ≡ false
not_numeral [] none = refl
not_numeral (byte ∷ []) none = sym (and-true (is_digit byte)) ∙ none
not_numeral (byte ∷ next ∷ bytes) none = not_all_by (is_digit byte) (not (byte == 48)) _ none

-- The number that a word is ----------------------------------------------------------------------

pub number_is : (word : Text) (value : ℕ) → is_numeral word ≡ true → value ≡ value_after 0 word → value < 2 ^ 64 → number word ≡ Some value
number_is word value numeral is small = grind (arith, nat_tests)

no_numeral : (word : Text) → is_numeral word ≡ false → number word ≡ None
no_numeral word none = rw none refl

no_number : (word : Text) → 2 ^ 64 ≤ value_after 0 word → number word ≡ None
no_number word large = grind (arith, nat_tests, and-false)

-- a word that goes on after its digits is no numeral
not_digits : (text : Text) (count long : ℕ) → count ≡ prefix_len is_digit text → count < long → long ≤ length text → is_numeral (take long text) ≡ false
not_digits text count long is more within =
    let below : prefix_len is_digit text < length text = omega arith in
    let byte : is_digit (get_or (take long text) count 0) ≡ false = rw (get_or-take long text count 0 more, is) (prefix_len_stops is_digit text 0 below) in
    not_numeral (take long text) (none_all (take long text) count (omega (arith, length-take-le long text within)) byte)

longer_numeral : (text : Text) (count long : ℕ) → count ≡ prefix_len is_digit text → count ≤ long → long ≤ length text → is_numeral (take count text) ≡ false → is_numeral (take long text) ≡ false
longer_numeral text count long is more within none = grind (arith, not_digits, eq-or-lt_of_le)

-- A word from its digits ------------------------------------------------------------------------

pub whole_numeral : (word : Text) (count : ℕ) → count ≡ prefix_len is_digit word → (count ≡ length word → ⊥) → number word ≡ None
whole_numeral word count is part =
    let below : prefix_len is_digit word < length word = omega (arith, prefix_len-le-length is_digit word, part) in
    no_numeral word (not_numeral word (none_all word (prefix_len is_digit word) below (prefix_len_stops is_digit word 0 below)))

pub whole_other : (word : Text) (count : ℕ) → count ≡ length word → is_numeral (take count word) ≡ false → number word ≡ None
whole_other word count whole none = no_numeral word (rw (take_all count word (omega arith)) at none)

pub whole_number : (word : Text) (count value : ℕ) → count ≡ prefix_len is_digit word → count ≡ length word → is_numeral (take count word) ≡ true → value ≡ value_after 0 (take_while is_digit word) → value < 2 ^ 64
    → number word ≡ Some value
whole_number word count value is whole numeral value_is small = grind (arith, take_all, number_is)

-- the digits of a text have no greater value than the text
value_front : (n : ℕ) (front rest : Text) → value_after n (front ++ rest) ≡ value_after (value_after n front) rest
value_front n [] rest = refl
value_front n (byte ∷ front) rest = value_front (10 * n + (byte - 48)) front rest

value_longer : (text : Text) (count long : ℕ) → count ≤ long → value_after 0 (take count text) ≤ value_after 0 (take long text)
value_longer text count long more =
    let same : take count text ++ drop count (take long text) ≡ take long text = rw (← take-take count long text more) (take-append-drop count (take long text)) in
    grind (arith, value_front, value_after_grows)

true_not_false : (is : Bool) → is ≡ true → is ≡ false → ⊥
true_not_false true yes_is no_is = cc
true_not_false false yes_is no_is = cc

pub whole_large : (word : Text) → 2 ^ 64 ≤ value_after 0 (take_while is_digit word) → number word ≡ None
whole_large word large =
    let all : take (length word) word ≡ word = take_all (length word) word (omega arith) in
    grind (arith, value_longer, prefix_len-le-length, no_number)

-- The first word of a line ------------------------------------------------------------------------

abbrev first_word : Text → Text
first_word line = take (before 32 line) line

before_within : (line : Text) → before 32 line ≤ length line
before_within line = prefix_len-le-length (λ byte. not (byte == 32)) line

first_by : (line : Text) → (before 32 line < length line) ⊎ (length line ≤ before 32 line) → (left : List Text) × (words line ≡ first_word line ∷ left)
first_by line (inl below) = (words (drop (suc (before 32 line)) line), rw (cut_first 32 line below) refl)
first_by line (inr past) = ([], rw (cut_none 32 line past, take_all (before 32 line) line past) refl)

numbers_none : (line : Text) → number (first_word line) ≡ None → numbers (words line) ≡ None
numbers_none line none = grind (arith, first_by, cases_lt, before)

space_by : (digit space : Bool) (m n : ℕ) → (digit ≡ true → space ≡ false) → m ≤ n → cond digit (1 + m) 0 ≤ cond (not space) (1 + n) 0
space_by true true m n other below = cc (other refl)
space_by true false m n other below = omega arith
space_by false space m n other below = omega arith

no_space : (byte : ℕ) → is_digit byte ≡ true → (byte == 32) ≡ false
no_space byte digit = grind (arith, nat_tests)

digits_before : (line : Text) → prefix_len is_digit line ≤ before 32 line
digits_before [] = omega arith
digits_before (byte ∷ bytes) = space_by (is_digit byte) (byte == 32) _ _ (no_space byte) (digits_before bytes)

pub first_too_large : (line : Text) → 2 ^ 64 ≤ value_after 0 (take_while is_digit line) → numbers (words line) ≡ None
first_too_large line large = grind (arith, numbers_none, no_number, value_longer, before, digits_before)

pub first_no_numeral : (line : Text) (count : ℕ) → count ≡ prefix_len is_digit line → is_numeral (take count line) ≡ false → numbers (words line) ≡ None
first_no_numeral line count is none = grind (arith, before, digits_before, numbers_none, no_numeral, longer_numeral, before_within)

goes_on : (line : Text) (count : ℕ) → count ≡ prefix_len is_digit line → (count ≡ length line → ⊥) → count < length line
goes_on line count is more = omega (arith, prefix_len-le-length is_digit line, more)

space_at : (line : Text) (count : ℕ) → count ≡ prefix_len is_digit line → count < length line → (get_or line count 0 == 32) ≡ true → before 32 line ≡ count
space_at line count is below space = grind (arith, position_or_len_is, no_space, prefix_len_passes)

pub first_then : (line : Text) (count value : ℕ) → count ≡ prefix_len is_digit line → (count ≡ length line → ⊥) → (get_or line count 0 == 32) ≡ true → is_numeral (take count line) ≡ true
    → value ≡ value_after 0 (take_while is_digit line) → value < 2 ^ 64 → BeginsWithNumber (words line) value (words (take (length line - (count + 1)) (drop (count + 1) line)))
first_then line count value is more space numeral value_is small =
    let below : count < length line = goes_on line count is more in
    let place : before 32 line ≡ count = space_at line count is below space in
    let P : ℕ → Type 0 = λ n. cut_after 32 line ≡ with_piece (take n line) (cut_after 32 (drop (suc n) line)) in
    let cut : P count = subst P place (cut_first 32 line (omega arith)) in
    record {
      word = take count line;
      taken = rw (take_rest, add-one, cut) refl;
      is = number_is (take count line) value numeral (rw is value_is) small;
    }

pub first_alone : (line : Text) (count value : ℕ) → count ≡ prefix_len is_digit line → count ≡ length line → is_numeral (take count line) ≡ true
    → value ≡ value_after 0 (take_while is_digit line) → value < 2 ^ 64 → BeginsWithNumber (words line) value []
first_alone line count value is whole numeral value_is small = grind (arith, take_all, cut_none, digits_before, number_is)

pub first_other : (line : Text) (count : ℕ) → count ≡ prefix_len is_digit line → (count ≡ length line → ⊥) → (get_or line count 0 == 32) ≡ false → numbers (words line) ≡ None
first_other line count is more other =
    let below : count < length line = goes_on line count is more in
    let within : count ≤ before 32 line = omega (arith, digits_before line) in
    let past : count < before 32 line =
    ⊎_elim (λ same. absurd (true_not_false _ (passes_at_first (λ byte. byte == 32) line 0 (omega arith)) (rw (← same) other))) (λ less. less) (eq-or-lt_of_le within) in
    numbers_none line (no_numeral (first_word line) (not_digits line count (before 32 line) is past (before_within line)))

-- The numbers of a line ---------------------------------------------------------------------------

pub numbers_next : (found : List ℕ) (n : ℕ) (words left : List Text) → BeginsWithNumber words n left
    → option_map (λ more. found ++ more) (numbers words) ≡ option_map (λ more. (found ++ n ∷ []) ++ more) (numbers left)
numbers_next found n words left first = rw first.taken (word_next found first.word n left first.is)

pub numbers_stop : (found : List ℕ) (words : List Text) → numbers words ≡ None → option_map (λ more. found ++ more) (numbers words) ≡ None
numbers_stop found words none = rw none refl
