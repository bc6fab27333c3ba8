-- How commands and controls are written: in words, and in few bytes.
use Rattle.std.proofs.Common.{◌≡◌, ℕ, ◌+◌, ◌<◌, ◌≤◌, nat_lt, nat_le, ◌&&◌, if◌then◌else◌, Bool, true, false, List, [], ◌∷◌, length, map, refl, decimal, arith, length-append}
use Rattle.std.proofs.{lemmas.Bool.{and_parts, and_from, ltb-true, leb-true}, lemmas.Fmt.length-decimal-le}
use Rattle.std.specs.List.{list_all}
use Rattle.mh_model.specs.{declared.command.Command.Command, declared.command.Control.Control, Bytes.{Text, joined}}
use Rattle.mh_model.specs.Forms.{Phrase, are_below, command_phrase, control_phrase, is_sayable, phrase_words, u32, u64}
use Rattle.mh_text_laws.proofs.PhraseLemmas.{command_passes, control_passes}
use Rattle.mh_text_laws.proofs.round_trips.ReplyRoundTrips.{small_numbers}
use Rattle.mh_text_laws.proofs.round_trips.WordRoundTrips.{all-decimals, are_words, decimal_word, is_word}

-- the most digits of a number below a bound of 64 bits at most
abbrev digits_below : ℕ → ℕ
digits_below bound = if nat_le bound u32 then 10 else 20

-- the most bytes of such numbers, with a space before each
abbrev room_of : List ℕ → ℕ
room_of [] = 0
room_of (bound ∷ bounds) = 1 + digits_below bound + room_of bounds

-- a word, and numbers of 64 bits at most, which take few bytes together
abbrev is_fine_form : Text → List ℕ → Bool
is_fine_form verb bounds = is_word verb && (list_all (λ bound. nat_le bound u64) bounds && nat_le (length verb + room_of bounds) 48)

abbrev is_fine : Phrase → Bool
is_fine said = is_fine_form said.verb said.bounds

pub fine_command : (c : Command) → is_fine (command_phrase c) ≡ true
fine_command c = command_passes is_fine_form refl c

pub fine_control : (c : Control) → is_fine (control_phrase c) ≡ true
fine_control c = control_passes is_fine_form refl c

-- Words ------------------------------------------------------------------------------------------

pub phrase_are_words : (said : Phrase) → is_fine said ≡ true → is_sayable said ≡ true → are_words (phrase_words said) ≡ true
phrase_are_words said fine h =
    let both = and_parts (is_word said.verb) _ fine in
    let bounded = (and_parts (list_all (λ bound. nat_le bound u64) said.bounds) _ both.1).0 in
    and_from _ _ both.0 (all-decimals is_word decimal_word said.numbers (small_numbers said.bounds said.numbers h bounded))

-- Bytes ------------------------------------------------------------------------------------------

few_digits : (bound n : ℕ) → nat_le bound u64 ≡ true → n < bound → length (decimal n) ≤ digits_below bound
few_digits bound n most below = go (nat_le bound u32) refl where
  go : (test : Bool) → nat_le bound u32 ≡ test → length (decimal n) ≤ (if test then 10 else 20)
  go true is = length-decimal-le 10 n (omega arith) (omega (arith, leb-true bound u32 is)) (omega (arith, leb-true bound u32 is))
  go false is = length-decimal-le 20 n (omega arith) (omega (arith, leb-true bound u64 most)) (omega (arith, leb-true bound u64 most))

-- a word and such numbers
pub numbers_length : (word : Text) (bounds ns : List ℕ) → list_all (λ bound. nat_le bound u64) bounds ≡ true → are_below bounds ns ≡ true
    → length (joined (word ∷ map decimal ns)) ≤ length word + room_of bounds
numbers_length word [] [] most below = omega arith
numbers_length word [] (n ∷ ns) most below = cc
numbers_length word (bound ∷ bounds) [] most below = cc
numbers_length word (bound ∷ bounds) (n ∷ ns) most below =
    let one = and_parts (nat_le bound u64) _ most in
    let first = and_parts (nat_lt n bound) _ below in
    let digits = few_digits bound n one.0 (ltb-true n bound first.0) in
    let more = numbers_length (decimal n) bounds ns one.1 first.1 in
    omega (arith, digits, more, length-append word (32 ∷ joined (decimal n ∷ map decimal ns)))

pub phrase_length : (said : Phrase) → is_fine said ≡ true → is_sayable said ≡ true → length (joined (phrase_words said)) ≤ 48
phrase_length said fine h =
    let both = and_parts (list_all (λ bound. nat_le bound u64) said.bounds) (nat_le (length said.verb + room_of said.bounds) 48) (and_parts (is_word said.verb) _ fine).1 in
    omega (arith, numbers_length said.verb said.bounds said.numbers both.0 h, leb-true (length said.verb + room_of said.bounds) 48 both.1)
