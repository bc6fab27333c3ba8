-- Lines of commands in their plain form.
use Rattle.std.proofs.Common.{◌≡◌, ℕ, zero, suc, ◌+◌, ◌*◌, ◌-◌, ◌^◌, ◌<◌, ◌≤◌, ◌==◌, nat_lt, not, ◌&&◌, ◌||◌, Bool, true, false, Some, None, List, [], ◌∷◌, ◌++◌, length, get_or, take, drop, ap, sym, refl, ◌∙◌, arith}
use Rattle.std.proofs.{lemmas.List.{append-nil, take_rest}, lemmas.Bool.and_parts, lemmas.Bool.Decides.nat_tests}
use Rattle.std.specs.{Prelude.if◌then◌else◌, List.{list_all, prefix_len, take_while}}
use Rattle.mh_model.specs.{declared.command.Command.Command, declared.command.Event.Event}
use Rattle.mh_model.specs.Bytes.{Text, Cut, cut_after, with_byte, words, is_text, is_digit, is_letter, is_numeral, is_name, value_after, number}
use Rattle.mh_model.specs.Forms.{command_of}
use Rattle.mh_text.specs.{declared.verbs.VerbOfThree.VerbOfThree, declared.verbs.VerbOfThree.TheVariants.New}
use Rattle.mh_text.specs.{declared.verbs.VerbOfTwo.VerbOfTwo, declared.verbs.VerbOfTwo.TheVariants.Copy}
use Rattle.mh_text.specs.{declared.verbs.VerbOfOne.VerbOfOne, declared.verbs.VerbOfOne.TheVariants.{Clear, Shape}}
use Rattle.mh_text.specs.Pieces.{lines_from, with_piece}
use Rattle.mh_text.specs.Auxiliary.{IsKnown, said, one_rows, two_rows, three_rows, BeginsWithLine, BeginsWithCommand, BeginsWithName, BeginsWithNumberBefore, TakesEvent, one_word, two_word, three_word}
use Rattle.mh_text.specs.Words.{few_numbers}
use Rattle.mh_model.proofs.TextLemmas.{text_is}
use Rattle.mh_text.proofs.{DigitLemmas.number_is, FormLemmas.{command_said, one_counted, two_counted, three_counted}}
use Rattle.mh_model.specs.Script as book

-- Bytes that end nothing -------------------------------------------------------------------------

-- a text without this byte
abbrev pub lacks : ℕ → Text → Bool
lacks end text = list_all (λ b. not (b == end)) text

-- a word: neither a space nor the end of a line is in it
abbrev pub IsWord : Text → Type 0
IsWord word = (lacks 32 word ≡ true) × (lacks 10 word ≡ true)

-- a cut with a text before it
abbrev pub front : Text → Cut → Cut
front [] cut = cut
front (byte ∷ bytes) cut = with_byte byte (front bytes cut)

cut_by : (is : Bool) (byte : ℕ) (cut : Cut) (rest : Cut) → not is ≡ true → (if is then rest else with_byte byte cut) ≡ with_byte byte cut
cut_by true byte cut rest other = cc
cut_by false byte cut rest other = refl

cut_front : (end : ℕ) (word more : Text) → lacks end word ≡ true → cut_after end (word ++ more) ≡ front word (cut_after end more)
cut_front end [] more none = refl
cut_front end (byte ∷ bytes) more none =
    let both = and_parts (not (byte == end)) (lacks end bytes) none in
    cut_by (byte == end) byte (cut_after end (bytes ++ more)) _ both.0 ∙ ap (with_byte byte) (cut_front end bytes more both.1)

front_piece : (word line : Text) (cut : Cut) → front word (with_piece line cut) ≡ with_piece (word ++ line) cut
front_piece [] line cut = refl
front_piece (byte ∷ bytes) line cut = ap (with_byte byte) (front_piece bytes line cut)

front_rest : (word rest : Text) → front word (record { pieces = []; rest = rest }) ≡ record { pieces = []; rest = word ++ rest }
front_rest [] rest = refl
front_rest (byte ∷ bytes) rest = ap (with_byte byte) (front_rest bytes rest)

-- a word with an end is a piece
cut_word : (end : ℕ) (word rest : Text) → lacks end word ≡ true → cut_after end (word ++ end ∷ rest) ≡ with_piece word (cut_after end rest)
cut_word end word rest none = grind (arith, nat_tests, cut_front, front_piece, append-nil)

-- Words of a line --------------------------------------------------------------------------------

words_alone : (word : Text) → lacks 32 word ≡ true → words word ≡ word ∷ []
words_alone word none =
    let cut : cut_after 32 word ≡ record { pieces = []; rest = word } =
    ap (cut_after 32) (sym (append-nil word)) ∙ (cut_front 32 word [] none ∙ (front_rest word [] ∙ ap (λ (w : Text). record { pieces = []; rest = w }) (append-nil word))) in
    ap (λ (c : Cut). c.pieces ++ c.rest ∷ []) cut

words_more : (word line : Text) → lacks 32 word ≡ true → words (word ++ 32 ∷ line) ≡ word ∷ words line
words_more word line none = ap (λ (c : Cut). c.pieces ++ c.rest ∷ []) (cut_word 32 word line none)

-- the last word of a line
pub line_last : (text word rest : Text) → text ≡ word ++ 10 ∷ rest → IsWord word → BeginsWithLine text (word ∷ []) rest
line_last text word rest whole none = record {
  line = word;
  cut = ap (cut_after 10) whole ∙ cut_word 10 word rest none.1;
  says = words_alone word none.0;
}

-- a word before others
pub line_more : (text word more : Text) (ws : List Text) (rest : Text) → text ≡ word ++ 32 ∷ more → IsWord word → BeginsWithLine more ws rest → BeginsWithLine text (word ∷ ws) rest
line_more text word more ws rest whole none begins =
    let after : cut_after 10 (32 ∷ more) ≡ with_piece (32 ∷ begins.line) (cut_after 10 rest) = ap (with_byte 32) begins.cut in
    record {
      line = word ++ 32 ∷ begins.line;
      cut = ap (cut_after 10) whole ∙ (cut_front 10 word (32 ∷ more) none.1 ∙ (ap (front word) after ∙ front_piece word (32 ∷ begins.line) (cut_after 10 rest)));
      says = words_more word begins.line none.0 ∙ ap (λ (l : List Text). word ∷ l) begins.says;
    }

-- What is a word ---------------------------------------------------------------------------------

digit_is : (byte end : ℕ) → end < 48 → is_digit byte ≡ true → not (byte == end) ≡ true
digit_is byte end low is = grind (arith, and_parts, nat_tests)

digits_lack : (end : ℕ) (word : Text) → end < 48 → list_all is_digit word ≡ true → lacks end word ≡ true
digits_lack end [] low all = refl
digits_lack end (byte ∷ bytes) low all =
    let both = and_parts (is_digit byte) (list_all is_digit bytes) all in
    let one : not (byte == end) ≡ true = digit_is byte end low both.0 in
    rw (one, digits_lack end bytes low both.1) refl

numeral_all : (word : Text) → is_numeral word ≡ true → list_all is_digit word ≡ true
numeral_all [] is = refl
numeral_all (byte ∷ []) is = rw is refl
numeral_all (byte ∷ next ∷ bytes) is = grind (arith, and_parts)

number_by : (is : Bool) (word : Text) (n : ℕ) (small : Bool) (value : ℕ) → is_numeral word ≡ is → (if is && small then Some value else None) ≡ Some n → is_numeral word ≡ true
number_by true word n small value same found = same
number_by false word n small value same found = cc

pub number_word : (word : Text) (n : ℕ) → number word ≡ Some n → IsWord word
number_word word n found = grind (arith, numeral_all, number_by, digits_lack)

-- a byte of a name
name_byte : (byte end : ℕ) → end < 48 → (is_letter byte || is_digit byte) ≡ true → not (byte == end) ≡ true
name_byte byte end low is = grind (arith, nat_tests)

name_bytes : (end : ℕ) (word : Text) → end < 48 → list_all (λ c. is_letter c || is_digit c) word ≡ true → lacks end word ≡ true
name_bytes end [] low all = refl
name_bytes end (byte ∷ bytes) low all =
    let both = and_parts (is_letter byte || is_digit byte) (list_all (λ c. is_letter c || is_digit c) bytes) all in
    let one : not (byte == end) ≡ true = name_byte byte end low both.0 in
    rw (one, name_bytes end bytes low both.1) refl

letter_is : (byte end : ℕ) → end < 48 → is_letter byte ≡ true → not (byte == end) ≡ true
letter_is byte end low is = grind (arith, nat_tests)

name_lacks : (end : ℕ) (word : Text) → end < 48 → is_name word ≡ true → lacks end word ≡ true
name_lacks end [] low is = refl
name_lacks end (byte ∷ bytes) low is = grind (arith, and_parts, letter_is, name_bytes)

pub name_word : (word : Text) → is_name word ≡ true → IsWord word
name_word word is = (name_lacks 32 word (omega arith) is, name_lacks 10 word (omega arith) is)

-- Commands ---------------------------------------------------------------------------------------

pub command_three : (word : Text) (a b c : Text) (x y z : ℕ) → number a ≡ Some x → number b ≡ Some y → number c ≡ Some z → command_of (word ∷ a ∷ b ∷ c ∷ []) ≡ said three_rows word (x ∷ y ∷ z ∷ [])
command_three word a b c x y z first second third =
    let few : few_numbers (a ∷ b ∷ c ∷ []) ≡ Some (x ∷ y ∷ z ∷ []) = rw (first, second, third) refl in
    command_said (word ∷ a ∷ b ∷ c ∷ []) word (a ∷ b ∷ c ∷ []) (x ∷ y ∷ z ∷ []) refl few ∙ three_counted word x y z

pub command_two : (word : Text) (a b : Text) (x y : ℕ) → number a ≡ Some x → number b ≡ Some y → command_of (word ∷ a ∷ b ∷ []) ≡ said two_rows word (x ∷ y ∷ [])
command_two word a b x y first second =
    let few : few_numbers (a ∷ b ∷ []) ≡ Some (x ∷ y ∷ []) = rw (first, second) refl in
    command_said (word ∷ a ∷ b ∷ []) word (a ∷ b ∷ []) (x ∷ y ∷ []) refl few ∙ two_counted word x y

pub command_one : (word : Text) (a : Text) (x : ℕ) → number a ≡ Some x → command_of (word ∷ a ∷ []) ≡ said one_rows word (x ∷ [])
command_one word a x first =
    let few : few_numbers (a ∷ []) ≡ Some (x ∷ []) = rw first refl in
    command_said (word ∷ a ∷ []) word (a ∷ []) (x ∷ []) refl few ∙ one_counted word x

pub three_is_word : (verb : VerbOfThree) → IsWord (three_word verb)
three_is_word New = (refl, refl)
three_is_word other = (refl, refl)

pub two_is_word : (verb : VerbOfTwo) → IsWord (two_word verb)
two_is_word Copy = (refl, refl)
two_is_word other = (refl, refl)

pub one_is_word : (verb : VerbOfOne) → IsWord (one_word verb)
one_is_word Clear = (refl, refl)
one_is_word Shape = (refl, refl)

pub begins_with_three : (text : Text) (verb : VerbOfThree) (t u v rest : Text) (x y z : ℕ) (command : Command) → text ≡ three_word verb ++ 32 ∷ t
    → BeginsWithNumberBefore 32 t x u → BeginsWithNumberBefore 32 u y v → BeginsWithNumberBefore 10 v z rest → said three_rows (three_word verb) (x ∷ y ∷ z ∷ []) ≡ Some command → BeginsWithCommand text command rest
begins_with_three text verb t u v rest x y z command whole first second third is = record {
  said = three_word verb ∷ first.word ∷ second.word ∷ third.word ∷ [];
  begins = line_more text (three_word verb) t _ rest whole (three_is_word verb)
      (line_more t first.word u _ rest first.whole (number_word first.word x first.is)
      (line_more u second.word v _ rest second.whole (number_word second.word y second.is) (line_last v third.word rest third.whole (number_word third.word z third.is))));
  is = command_three (three_word verb) first.word second.word third.word x y z first.is second.is third.is ∙ is;
}

pub begins_with_two : (text : Text) (verb : VerbOfTwo) (t u rest : Text) (x y : ℕ) (command : Command) → text ≡ two_word verb ++ 32 ∷ t
    → BeginsWithNumberBefore 32 t x u → BeginsWithNumberBefore 10 u y rest → said two_rows (two_word verb) (x ∷ y ∷ []) ≡ Some command → BeginsWithCommand text command rest
begins_with_two text verb t u rest x y command whole first second is = record {
  said = two_word verb ∷ first.word ∷ second.word ∷ [];
  begins = line_more text (two_word verb) t _ rest whole (two_is_word verb)
      (line_more t first.word u _ rest first.whole (number_word first.word x first.is) (line_last u second.word rest second.whole (number_word second.word y second.is)));
  is = command_two (two_word verb) first.word second.word x y first.is second.is ∙ is;
}

pub begins_with_one : (text : Text) (verb : VerbOfOne) (t rest : Text) (x : ℕ) (command : Command) → text ≡ one_word verb ++ 32 ∷ t
    → BeginsWithNumberBefore 10 t x rest → said one_rows (one_word verb) (x ∷ []) ≡ Some command → BeginsWithCommand text command rest
begins_with_one text verb t rest x command whole first is = record {
  said = one_word verb ∷ first.word ∷ [];
  begins = line_more text (one_word verb) t _ rest whole (one_is_word verb) (line_last t first.word rest first.whole (number_word first.word x first.is));
  is = command_one (one_word verb) first.word x first.is ∙ is;
}

-- Lines ------------------------------------------------------------------------------------------

letter_other : (byte other : ℕ) → is_letter byte ≡ true → other < 97 → (byte == other) ≡ false
letter_other byte other is low = grind (arith, nat_tests)

-- a line that begins with a name is no comment and no control
line_named : (line name : Text) (more : List Text) (after : Text) (command : Command) → line ≡ name ++ 32 ∷ after → words line ≡ name ∷ more → is_name name ≡ true → command_of more ≡ Some command
    → book.line_of line ≡ book.Calls name command
line_named line [] more after command whole says named is = cc
line_named line (byte ∷ bytes) more after command whole says named is = grind (arith, and_parts, letter_other)

pub takes_event : (names : List Text) (first who : ℕ) (text t rest : Text) (command : Command) → BeginsWithName names text who t → BeginsWithCommand t command rest
    → TakesEvent names (lines_from first text) (lines_from (first + 1) rest) (Event.Session who command)
unfolding line_more
takes_event names first who text t rest command named begins =
    let line = line_more text named.name t begins.said rest named.whole (name_word named.name named.known.0) begins.begins in
    grind (arith, line_named)

-- Texts that are cut at a place ------------------------------------------------------------------

-- a text is what stands before a place, the byte there, and what follows
pub cut_there : (text : Text) (count : ℕ) → count < length text → text ≡ take count text ++ get_or text count 0 ∷ drop (count + 1) text
cut_there [] count below = absurd (omega arith)
cut_there (byte ∷ bytes) zero below = refl
cut_there (byte ∷ bytes) (suc count) below =
    let one : suc count + 1 ≡ suc (count + 1) = omega arith in
    rw one (ap (λ (t : Text). byte ∷ t) (cut_there bytes count (omega arith)))

-- Numbers of one digit and of two ----------------------------------------------------------------

pub two_digits : (end : ℕ) (text : Text) → 3 ≤ length text → get_or text 2 0 ≡ end → is_digit (get_or text 0 0) ≡ true → is_digit (get_or text 1 0) ≡ true → (get_or text 0 0 ≡ 48 → ⊥)
    → BeginsWithNumberBefore end text ((get_or text 0 0 - 48) * 10 + (get_or text 1 0 - 48)) (take (length text - 3) (drop 3 text))
two_digits end [] long after first second some = absurd (omega arith)
two_digits end (ten ∷ []) long after first second some = absurd (omega arith)
two_digits end (ten ∷ one ∷ []) long after first second some = absurd (omega arith)
two_digits end (ten ∷ one ∷ next ∷ rest) long after first second some =
    let zero : (ten == 48) ≡ false = grind (arith, nat_tests) in
    let small : nat_lt (10 * (10 * 0 + (ten - 48)) + (one - 48)) (2 ^ 64) ≡ true = grind (arith, nat_tests) in
    let value : 10 * (10 * 0 + (ten - 48)) + (one - 48) ≡ (ten - 48) * 10 + (one - 48) = omega arith in
    record { word = ten ∷ one ∷ []; whole = rw (take_rest, after) refl; is = rw (first, zero, second, small, value) refl }

-- Longer numbers ---------------------------------------------------------------------------------

pub long_number : (end : ℕ) (text : Text) (value count : ℕ) → count < length text → get_or text count 0 ≡ end → value ≡ value_after 0 (take_while is_digit text) → count ≡ prefix_len is_digit text
    → is_numeral (take count text) ≡ true → value < 2 ^ 64 → BeginsWithNumberBefore end text value (take (length text - (count + 1)) (drop (count + 1) text))
long_number end text value count below after is counted numeral small = record {
  word = take count text;
  whole = rw (take_rest, ← after) (cut_there text count below);
  is = number_is (take count text) value numeral (is ∙ ap (λ (n : ℕ). value_after 0 (take n text)) (sym counted)) small;
}

-- Names ------------------------------------------------------------------------------------------

pub name_there : (names : List Text) (text name : Text) (who : ℕ) → length name < length text → get_or text (length name) 0 ≡ 32 → is_text name (take (length name) text) ≡ true → IsKnown names name who
    → BeginsWithName names text who (take (length text - (length name + 1)) (drop (length name + 1) text))
name_there names text name who below after same known =
    let is : name ≡ take (length name) text = text_is name (take (length name) text) same in
    record { name = name; whole = rw take_rest (cut_there text (length name) below ∙ rw (← is, after) refl); known = known }
