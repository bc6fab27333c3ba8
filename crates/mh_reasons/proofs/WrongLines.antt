-- What reasons say of lines makes them wrong.
use Rattle.std.proofs.Common.{◌≡◌, ℕ, suc, ◌==◌, nat_lt, ◌&&◌, ◌||◌, Bool, true, false, Option, Some, None, List, [], ◌∷◌, length, map, refl, ap, ◌∙◌, arith}
use Rattle.std.proofs.{lemmas.Bool.{and_parts, and_from}, lemmas.Bool.Decides.nat_tests}
use Rattle.std.specs.{Prelude.{if◌then◌else◌, codes}, List.list_all}
use Rattle.mh_model.specs.declared.history.Version.TheVariants.{Two}
use Rattle.mh_model.specs.Bytes.{Text, words, is_text, is_digit, is_letter, is_name}
use Rattle.mh_model.specs.Forms.{Row, row_form, formed, command_rows, control_rows}
use Rattle.mh_model.specs.Script.{Wrong, line_words, is_blank, config_words}
use Rattle.mh_model.proofs.TextLemmas.{text_is}
use Rattle.mh_text.proofs.RowLemmas.{formed_said}
use Rattle.mh_reasons.specs.{Lines.{HasPair, is_stray}, declared.reason.LineReason.LineReason}
use Rattle.mh_reasons.specs.{Reasons.{IsWrong, IsLineReason}, Verbs.bounds_of}
use Rattle.mh_reasons.proofs.SoundWords.{is_sound, are_sound, unsound, unsound_numbers}
use Rattle.mh_reasons.proofs.SoundLines.{byte_unsound, fault_unsound}
use Rattle.mh_reasons.proofs.WrongWords.{IsWordsWrong, formed_unknown, star_wrong, named_wrong, unnamed_wrong, words_wrong}

-- Words ------------------------------------------------------------------------------------------

-- what stands in a word
abbrev is_word_byte : ℕ → Bool
is_word_byte byte = (is_letter byte || is_digit byte) || byte == 42

or_digit : (letter digit star : Bool) → digit ≡ true → ((letter || digit) || star) ≡ true
or_digit letter digit star is = grind arith

or_name : (either star : Bool) → either ≡ true → (either || star) ≡ true
or_name either star is = grind arith

digit_byte : (byte : ℕ) → is_digit byte ≡ true → is_word_byte byte ≡ true
digit_byte byte is = or_digit (is_letter byte) (is_digit byte) (byte == 42) is

letters_sound : (word : Text) → list_all (λ c. is_letter c || is_digit c) word ≡ true → list_all is_word_byte word ≡ true
letters_sound [] is = refl
letters_sound (byte ∷ bytes) is =
    let parts = and_parts (is_letter byte || is_digit byte) (list_all (λ c. is_letter c || is_digit c) bytes) is in
    and_from _ _ (or_name (is_letter byte || is_digit byte) (byte == 42) parts.0) (letters_sound bytes parts.1)

letter_or : (letter digit : Bool) → letter ≡ true → (letter || digit) ≡ true
letter_or letter digit is = grind arith

name_sound : (word : Text) → is_name word ≡ true → is_sound is_word_byte word ≡ true
name_sound word is = grind (arith, and_parts, letters_sound, and_from, letter_or)

verb_by : (is : Bool) (bounds : List ℕ) (rest : Option (List ℕ)) → (is ≡ true → ⊥) → rest ≡ None → (if is then Some bounds else rest) ≡ None
verb_by is bounds rest other none = grind arith

unsound_verb : {X : Type 0} (rows : List (Row X)) (word : Text) → list_all (λ r. is_sound is_word_byte r.verb) rows ≡ true → is_sound is_word_byte word ≡ false → bounds_of rows word ≡ None
unsound_verb [] word sound is = refl
unsound_verb (r ∷ rs) word sound is =
    let parts = and_parts (is_sound is_word_byte r.verb) (list_all (λ r. is_sound is_word_byte r.verb) rs) sound in
    verb_by (is_text word r.verb) r.bounds (bounds_of rs word) (λ same. unsound is_word_byte word is (ap (is_sound is_word_byte) (text_is word r.verb same) ∙ parts.0)) (unsound_verb rs word parts.1 is)

formed_by : {X : Type 0} (sound : Bool) (rows : List (Row X)) (word : Text) (given : List Text) → is_sound is_word_byte word ≡ sound → list_all (λ r. is_sound is_word_byte r.verb) rows ≡ true → sound && are_sound is_word_byte given ≡ false
    → formed (map row_form rows) (word ∷ given) ≡ None
formed_by sound rows word given same rows_sound is = grind (arith, formed_said, unsound_numbers, digit_byte, formed_unknown, unsound_verb)

unsound_formed : {X : Type 0} (rows : List (Row X)) (words : List Text) → list_all (λ r. is_sound is_word_byte r.verb) rows ≡ true → are_sound is_word_byte words ≡ false → formed (map row_form rows) words ≡ None
unsound_formed rows words sound is = grind (arith, formed_by, is_sound)

-- words of which one isn't sound are wrong
event_by : (star named : Bool) (name : Text) (given : List Text) → is_text name (codes "*") ≡ star → is_name name ≡ named → are_sound is_word_byte (name ∷ given) ≡ false → line_words (name ∷ given) ≡ Wrong
event_by true named name given same names is =
    star_wrong name given same (unsound_formed (control_rows Two) given refl (rw (ap (is_sound is_word_byte) (text_is name (codes "*") same)) at is))
event_by false true name given same names is =
    named_wrong name given same names (unsound_formed command_rows given refl (rw (name_sound name names) at is))
event_by false false name given same names is = unnamed_wrong (name ∷ given) same names

config_by : (config : Bool) (word : Text) (given : List Text) → is_text word (codes "config") ≡ config → are_sound is_word_byte (word ∷ given) ≡ false → config_words (word ∷ given) ≡ None
config_by true word given same is =
    rw same (rw (unsound_numbers is_word_byte digit_byte given (rw (ap (is_sound is_word_byte) (text_is word (codes "config") same)) at is)) refl)
config_by false word given same is = rw same refl

unsound_wrong : (configured : Bool) (words : List Text) → are_sound is_word_byte words ≡ false → IsWordsWrong configured words
unsound_wrong configured words is = grind (arith, config_by, event_by)

-- Bytes ------------------------------------------------------------------------------------------

stray_not : (letter digit star : Bool) → letter ≡ false → digit ≡ false → star ≡ false → ((letter || digit) || star) ≡ false
stray_not letter digit star a b c = rw (a, b, c) refl

no_letter : (byte : ℕ) → is_stray byte ≡ true → is_letter byte ≡ false
no_letter byte is = grind (arith, nat_tests)

no_digit : (byte : ℕ) → is_stray byte ≡ true → is_digit byte ≡ false
no_digit byte is = grind (arith, nat_tests)

no_star : (byte : ℕ) → is_stray byte ≡ true → (byte == 42) ≡ false
no_star byte is = grind (arith, nat_tests)

stray_byte : (byte : ℕ) → is_stray byte ≡ true → is_word_byte byte ≡ false
stray_byte byte is = stray_not (is_letter byte) (is_digit byte) (byte == 42) (no_letter byte is) (no_digit byte is) (no_star byte is)

comment_unsound : (line : Text) → HasPair line 32 35 → are_sound is_word_byte (words line) ≡ false
comment_unsound line pair = byte_unsound is_word_byte line (suc pair.place) pair.within (rw pair.right refl)

-- Lines ------------------------------------------------------------------------------------------

wrong_line : (configured : Bool) (line : Text) → is_blank line ≡ false → IsWordsWrong configured (words line) → IsWrong configured line
wrong_line configured line full wrong = grind arith

-- a line of which a reason speaks is wrong
pub reason_wrong : (configured : Bool) (line : Text) (r : LineReason) → is_blank line ≡ false → IsLineReason configured line r → IsWrong configured line
reason_wrong configured line LineReason.Comment full is = wrong_line configured line full (unsound_wrong configured (words line) (comment_unsound line is))
reason_wrong configured line (LineReason.Bytes fault) full is = grind (arith, wrong_line, unsound_wrong, fault_unsound, stray_byte)
reason_wrong configured line r full is = wrong_line configured line full (words_wrong configured (words line) r is.2)
