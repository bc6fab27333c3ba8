-- What reasons say of a first line makes it no first line.
use Rattle.std.proofs.Common.{arith, ◌≡◌, ◌≢◌, ℕ, nat_lt, ◌&&◌, Bool, true, false, Option, Some, None, option_map, option_and_then, List, [], ◌∷◌, refl, sym, ap, ◌∙◌}
use Rattle.std.proofs.lemmas.Bool.{false≢true, and_parts}
use Rattle.std.specs.{Prelude.{if◌then◌else◌, codes}, List.list_all}
use Rattle.mh_model.specs.{declared.config.Rules.Rules, declared.history.Version.Version}
use Rattle.mh_model.specs.declared.history.Version.TheVariants.{One, Two}
use Rattle.mh_model.specs.{Bytes.{Text, words, is_text, number, numbers}, Configs.configured_under}
use Rattle.mh_model.specs.{Limits.is_configuration, Forms.{are_below, u64}}
use Rattle.mh_model.specs.HistoryTexts.{rules_of, header_by, header_of}
use Rattle.mh_model.proofs.TextLemmas.{text_is}
use Rattle.mh_reasons.specs.declared.history_reason.HistoryLineReason.{HistoryLineReason}
use Rattle.mh_reasons.specs.{declared.reason.LineReason.LineReason, Operands.{are_numbers_below, fit, IsOperandReason}}
use Rattle.mh_reasons.specs.Reasons.{is_log, word_at}
use Rattle.mh_reasons.specs.HistoryReasons.{headed, IsGivenReason, IsFirstWordsReason, IsFirstLineReason, IsFirstWrong}
use Rattle.mh_reasons.specs.declared.verb.Verb.{Verb}
use Rattle.mh_reasons.proofs.{SoundWords.{is_sound, are_sound, unsound_numbers}, SoundLines.fault_unsound}
use Rattle.mh_reasons.proofs.SoundEntries.{is_printable, printable_digit, printable_stray}
use Rattle.mh_reasons.proofs.{WrongWords.{miscounted, operand_unfit, limit_outside}, WrongEntries.small}

-- The first version ------------------------------------------------------------------------------

one_by : (is : Bool) (line : Text) → is_text line (codes "history 1") ≡ is → (line ≡ codes "history 1" → ⊥) → is ≡ false
one_by is line same other = grind (arith, text_is)

not_one : (line : Text) → (line ≡ codes "history 1" → ⊥) → is_text line (codes "history 1") ≡ false
not_one line other = one_by (is_text line (codes "history 1")) line refl other

two_versions : codes "1" ≡ codes "2" → ⊥
two_versions same = false≢true (ap (λ (t : Text). is_text t (codes "2")) same)

two_words : codes "history" ≡ codes "config" → ⊥
two_words same = false≢true (ap (λ (t : Text). is_text t (codes "config")) same)

other_second : (line : Text) → word_at (words line) 1 ≡ codes "2" → line ≡ codes "history 1" → ⊥
other_second line is same = two_versions (sym (ap (λ l. word_at (words l) 1) same) ∙ is)

other_first : (line : Text) → word_at (words line) 0 ≡ codes "config" → line ≡ codes "history 1" → ⊥
other_first line is same = two_words (sym (ap (λ l. word_at (words l) 0) same) ∙ is)

log_first : (line : Text) → is_log (words line) ≡ true → line ≡ codes "history 1" → ⊥
log_first line is same = false≢true (sym (ap (λ l. is_log (words l)) same) ∙ is)

first_one : (line : Text) (r : HistoryLineReason) → IsFirstWordsReason One line r → is_text line (codes "history 1") ≡ false
first_one line r is = grind (arith, not_one, other_second, other_first, log_first)

-- The second version -----------------------------------------------------------------------------

header_first : (words : List Text) → is_text (word_at words 0) (codes "history") ≡ false → header_of words ≡ None
header_first words is = grind arith

header_second : (words : List Text) → is_text (word_at words 1) (codes "2") ≡ false → header_of words ≡ None
header_second words is = grind arith

unheaded_by : (is : Bool) (a b c : Text) (given : List Text) → (is_text a (codes "history") && (is_text b (codes "2") && is_text c (codes "rules"))) ≡ is → ((more : List Text) → a ∷ b ∷ c ∷ given ≢ headed more) → is ≡ false
unheaded_by true a b c given same other =
    let parts = and_parts (is_text a (codes "history")) (is_text b (codes "2") && is_text c (codes "rules")) same in
    let more = and_parts (is_text b (codes "2")) (is_text c (codes "rules")) parts.1 in
    absurd (other given (rw (text_is a (codes "history") parts.0, text_is b (codes "2") more.0, text_is c (codes "rules") more.1) refl))
unheaded_by false a b c given same other = refl

header_other : (words : List Text) → ((more : List Text) → words ≢ headed more) → header_of words ≡ None
header_other (a ∷ b ∷ c ∷ given) other = rw (unheaded_by (is_text a (codes "history") && (is_text b (codes "2") && is_text c (codes "rules"))) a b c given refl other) refl
header_other words other = refl

under_none : (rules : Option Rules) (a b c d : ℕ) → is_configuration a b c d ≡ false → option_and_then (λ r. configured_under r a b c d) rules ≡ None
under_none rules a b c d none = grind arith

unknown_rules : (rules : ℕ) (config : List ℕ) → rules_of rules ≡ None → header_by (rules ∷ config) ≡ None
unknown_rules rules config none = grind arith

-- numbers of words have 64 bits
small_next : (word : Text) (first : Option ℕ) (rest : Option (List ℕ)) (ns : List ℕ) → number word ≡ first → option_and_then (λ n. option_map (λ ns. n ∷ ns) rest) first ≡ Some ns
    → ((ms : List ℕ) → rest ≡ Some ms → list_all (λ n. nat_lt n u64) ms ≡ true) → list_all (λ n. nat_lt n u64) ns ≡ true
small_next word first rest ns same read more = grind arith

all_small : (words : List Text) (ns : List ℕ) → numbers words ≡ Some ns → list_all (λ n. nat_lt n u64) ns ≡ true
all_small [] ns read = let none : [] ≡ ns = cc in rw (← none) refl
all_small (word ∷ words) ns read = small_next word (number word) (numbers words) ns refl read (all_small words)

abbrev five : List ℕ
five = u64 ∷ u64 ∷ u64 ∷ u64 ∷ u64 ∷ []

five_none : (ns : List ℕ) → list_all (λ n. nat_lt n u64) ns ≡ true → are_below five ns ≡ false → header_by ns ≡ None
five_none ns small none = grind arith

unfit_by : (given : List Text) (all : Option (List ℕ)) → numbers given ≡ all → are_numbers_below five all ≡ false → option_and_then header_by all ≡ None
unfit_by given all read none = grind (arith, five_none, all_small)

operands_none : (given : List Text) (r : LineReason) → IsOperandReason Verb.Rules five given r → fit five given ≡ false
operands_none given r is = grind (arith, miscounted, operand_unfit)

given_none : (given : List Text) (r : HistoryLineReason) → IsGivenReason given r → option_and_then header_by (numbers given) ≡ None
given_none given r is = grind (arith, unknown_rules, under_none, limit_outside, unfit_by, operands_none)

first_two : (line : Text) (r : HistoryLineReason) → IsFirstWordsReason Two line r → header_of (words line) ≡ None
first_two line (HistoryLineReason.OtherVersion One) is = header_second (words line) (rw is.1.1 refl)
first_two line (HistoryLineReason.OtherVersion Two) is = absurd (is.0 refl)
first_two line HistoryLineReason.Script is = header_first (words line) (rw is refl)
first_two line HistoryLineReason.Log is =
    header_first (words line) (rw (text_is (word_at (words line) 0) (codes "log") (and_parts (is_text (word_at (words line) 0) (codes "log")) (is_text (word_at (words line) 1) (codes "1")) is).0) refl)
first_two line (HistoryLineReason.NotHistory of) is = header_other (words line) is.1
first_two line r is = ap header_of is.1.1 ∙ given_none is.1.0 r is.1.2

words_wrong : (version : Version) (line : Text) (r : HistoryLineReason) → IsFirstWordsReason version line r → IsFirstWrong version line
words_wrong version line r is = grind (arith, first_one, first_two)

-- Bytes ------------------------------------------------------------------------------------------

unsound_one : (line : Text) → are_sound is_printable (words line) ≡ false → is_text line (codes "history 1") ≡ false
unsound_one line unsound = not_one line (λ same. false≢true (sym unsound ∙ ap (λ (l : Text). are_sound is_printable (words l)) same))

unsound_by : (is : Bool) (a b c : Text) (given : List Text) → (is_text a (codes "history") && (is_text b (codes "2") && is_text c (codes "rules"))) ≡ is → are_sound is_printable (a ∷ b ∷ c ∷ given) ≡ false
    → (if is then option_and_then header_by (numbers given) else None) ≡ None
unsound_by true a b c given same unsound =
    let first = and_parts (is_text a (codes "history")) (is_text b (codes "2") && is_text c (codes "rules")) same in
    let next = and_parts (is_text b (codes "2")) (is_text c (codes "rules")) first.1 in
    let one : is_sound is_printable a ≡ true = ap (is_sound is_printable) (text_is a (codes "history") first.0) in
    let two : is_sound is_printable b ≡ true = ap (is_sound is_printable) (text_is b (codes "2") next.0) in
    let three : is_sound is_printable c ≡ true = ap (is_sound is_printable) (text_is c (codes "rules") next.1) in
    ap (option_and_then header_by) (unsound_numbers is_printable printable_digit given (rw (one, two, three) at unsound))
unsound_by false a b c given same unsound = refl

unsound_two : (words : List Text) → are_sound is_printable words ≡ false → header_of words ≡ None
unsound_two words unsound = grind (arith, unsound_by)

unsound_wrong : (version : Version) (line : Text) → are_sound is_printable (words line) ≡ false → IsFirstWrong version line
unsound_wrong version line unsound = grind (arith, unsound_one, unsound_two)

-- a line of which a reason speaks is no first line
pub first_wrong : (version : Version) (line : Text) (r : HistoryLineReason) → IsFirstLineReason version line r → IsFirstWrong version line
first_wrong version line (HistoryLineReason.Bytes fault) is = unsound_wrong version line (fault_unsound is_printable printable_stray line fault is)
first_wrong version line r is = words_wrong version line r is.1
