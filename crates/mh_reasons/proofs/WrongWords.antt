-- What reasons say of words makes them wrong.
use Rattle.std.proofs.Common.{◌≡◌, ◌≢◌, ℕ, suc, ◌<◌, ◌≤◌, nat_le, ◌&&◌, Bool, true, false, Option, Some, None, option_map, option_and_then, List, [], ◌∷◌, length, map, get_or, inl, inr, ◌⊎◌, refl, sym, ap, ◌∙◌, arith}
use Rattle.std.proofs.{lemmas.Bool.{false≢true, and_parts}, lemmas.Bool.Decides.nat_tests}
use Rattle.std.specs.Prelude.{if◌then◌else◌, codes}
use Rattle.mh_model.specs.{declared.config.Rules.Rules, declared.history.Version.Version}
use Rattle.mh_model.specs.declared.history.Version.TheVariants.{Two}
use Rattle.mh_model.specs.Bytes.{Text, words, is_text, is_numeral, is_name, number, numbers}
use Rattle.mh_model.specs.{Configs.{configured_by, configured}, Limits.is_configuration}
use Rattle.mh_model.specs.Forms.{Row, within, are_below, u64, row_form, formed, command_rows, command_of, control_rows, control_of}
use Rattle.mh_model.specs.Script.{Wrong, calls, asks, line_words, config_of, config_words}
use Rattle.mh_model.proofs.TextLemmas.{text_is}
use Rattle.mh_text.specs.Auxiliary.{said}
use Rattle.mh_text.proofs.{RowLemmas.{formed_said, below_other}, WordLemmas.length_numbers}
use Rattle.mh_reasons.specs.{declared.number_fault.NumberFault.NumberFault, declared.quoted.Quoted.Quoted}
use Rattle.mh_reasons.specs.{declared.reason.ConfigNumber.ConfigNumber, declared.reason.LineReason.LineReason}
use Rattle.mh_reasons.specs.{Numbers.{is_digits, HasNumberFault}, Verbs.{bounds_of, Usage, usage_of}}
use Rattle.mh_reasons.specs.Operands.{are_numbers_below, fit, HasOperandFault}
use Rattle.mh_reasons.specs.Reasons.{is_alphanumeric, is_in_limits, IsFirstOutside, word_at, is_log, IsWordsReason}

-- Numbers ----------------------------------------------------------------------------------------

-- a word with a fault is no number below its bound
abbrev IsUnfit : ℕ → Option ℕ → Type 0
IsUnfit bound None = Unit {0}
IsUnfit bound (Some v) = bound ≤ v

unfit_by : (numeral short : Bool) (value bound : ℕ) → (numeral ≡ true → bound ≤ value) → IsUnfit bound (if numeral && short then Some value else None)
unfit_by numeral short value bound above = grind arith

no_numeral : (word : Text) (bound : ℕ) → is_numeral word ≡ false → IsUnfit bound (number word)
no_numeral word bound none = grind arith

not_digits : (word : Text) → is_digits word ≡ false → is_numeral word ≡ false
not_digits word none = grind arith

fault_unfit : (bound : ℕ) (word : Text) (fault : NumberFault) → HasNumberFault bound word fault → IsUnfit bound (number word)
fault_unfit bound word fault is = grind arith

first_unfit : (bound : ℕ) (bounds : List ℕ) (first : Option ℕ) (rest : Option (List ℕ)) → IsUnfit bound first → are_numbers_below (bound ∷ bounds) (option_and_then (λ n. option_map (λ ns. n ∷ ns) rest) first) ≡ false
first_unfit bound bounds first rest above = grind arith

later_unfit : (bound : ℕ) (bounds : List ℕ) (first : Option ℕ) (rest : Option (List ℕ)) → are_numbers_below bounds rest ≡ false → are_numbers_below (bound ∷ bounds) (option_and_then (λ n. option_map (λ ns. n ∷ ns) rest) first) ≡ false
later_unfit bound bounds first rest none = grind arith

place_unfit : (bounds : List ℕ) (given : List Text) (place : ℕ) (fault : NumberFault) → place < length given → length given ≡ length bounds → HasNumberFault (get_or bounds place 0) (get_or given place []) fault → fit bounds given ≡ false
place_unfit (bound ∷ bounds) (word ∷ given) (suc place) fault below count is =
    later_unfit bound bounds (number word) (numbers given) (place_unfit bounds given place fault (omega arith) (omega (arith, count)) is)
place_unfit bounds given place fault below count is = grind (arith, first_unfit, fault_unfit)

pub operand_unfit : (bounds : List ℕ) (given : List Text) (quoted : Quoted) (fault : NumberFault) → HasOperandFault bounds given quoted fault → fit bounds given ≡ false
operand_unfit bounds given quoted fault is = place_unfit bounds given is.place fault is.within is.counted is.faulty

miscounted_by : (bounds : List ℕ) (given : List Text) (all : Option (List ℕ)) → numbers given ≡ all → length given ≢ length bounds → are_numbers_below bounds all ≡ false
miscounted_by bounds given all read other = grind (arith, below_other, length_numbers)

pub miscounted : (bounds : List ℕ) (given : List Text) → length given ≢ length bounds → fit bounds given ≡ false
miscounted bounds given other = miscounted_by bounds given (numbers given) refl other

-- Rows -------------------------------------------------------------------------------------------

unknown_by : {X : Type 0} (is : Bool) (bounds : List ℕ) (more : Option (List ℕ)) (x rest : Option X) → (if is then Some bounds else more) ≡ None → (more ≡ None → rest ≡ None) → (if is then x else rest) ≡ None
unknown_by is bounds more x rest none later = grind arith

unknown_said : {X : Type 0} (rows : List (Row X)) (word : Text) (ns : List ℕ) → bounds_of rows word ≡ None → said rows word ns ≡ None
unknown_said [] word ns none = refl
unknown_said (r ∷ rs) word ns none = grind (arith, unknown_by, unknown_said rs word ns)

unfit_said_by : {X : Type 0} (is : Bool) (row_bounds bounds ns : List ℕ) (more : Option (List ℕ)) (x : X) (rest : Option X) → (if is then Some row_bounds else more) ≡ Some bounds → are_below bounds ns ≡ false
    → (more ≡ Some bounds → rest ≡ None) → (if is then within (are_below row_bounds ns) x else rest) ≡ None
unfit_said_by is row_bounds bounds ns more x rest known none later = grind arith

unfit_said : {X : Type 0} (rows : List (Row X)) (word : Text) (bounds ns : List ℕ) → bounds_of rows word ≡ Some bounds → are_below bounds ns ≡ false → said rows word ns ≡ None
unfit_said [] word bounds ns known none = refl
unfit_said (r ∷ rs) word bounds ns known none = unfit_said_by (is_text word r.verb) r.bounds bounds ns (bounds_of rs word) (r.made ns) (said rs word ns) known none (λ more. unfit_said rs word bounds ns more none)

all_said : {X : Type 0} (rows : List (Row X)) (word : Text) (all : Option (List ℕ)) → ((ns : List ℕ) → all ≡ Some ns → said rows word ns ≡ None) → option_and_then (said rows word) all ≡ None
all_said rows word all none = grind arith

pub formed_unknown : {X : Type 0} (rows : List (Row X)) (word : Text) (given : List Text) → bounds_of rows word ≡ None → formed (map row_form rows) (word ∷ given) ≡ None
formed_unknown rows word given none = formed_said rows word given ∙ all_said rows word (numbers given) (λ ns read. unknown_said rows word ns none)

formed_unfit : {X : Type 0} (rows : List (Row X)) (word : Text) (given : List Text) (bounds : List ℕ) → bounds_of rows word ≡ Some bounds → fit bounds given ≡ false → formed (map row_form rows) (word ∷ given) ≡ None
formed_unfit rows word given bounds known none = grind (arith, formed_said, all_said, unfit_said)

-- The configuration ------------------------------------------------------------------------------

abbrev four : List ℕ
four = u64 ∷ u64 ∷ u64 ∷ u64 ∷ []

pub outside_none : (rules : Rules) (pages quantum trigger every : ℕ) (answer : Bool) (is : is_configuration pages quantum trigger every ≡ answer) → answer ≡ false → configured_by rules pages quantum trigger every answer is ≡ None
outside_none rules pages quantum trigger every answer is none = grind arith

within_four : (a b c d : ℕ) → is_configuration a b c d ≡ true → are_below four (a ∷ b ∷ c ∷ d ∷ []) ≡ true
within_four a b c d is = grind (arith, and_parts, nat_le, nat_tests)

large_outside : (a b c d : ℕ) → are_below four (a ∷ b ∷ c ∷ d ∷ []) ≡ false → is_configuration a b c d ≡ false
large_outside a b c d none = large_by (is_configuration a b c d) refl where
  large_by : (is : Bool) → is_configuration a b c d ≡ is → is ≡ false
  large_by true is = let bad : false ≡ true = sym none ∙ within_four a b c d is in cc
  large_by false is = refl

config_unfit : (ns : List ℕ) → are_below four ns ≡ false → config_of ns ≡ None
config_unfit ns none = grind (arith, outside_none, large_outside)

all_config : (all : Option (List ℕ)) → are_numbers_below four all ≡ false → option_and_then config_of all ≡ None
all_config all none = grind (arith, config_unfit)

within_limit : (which : ConfigNumber) (a b c d : ℕ) → is_configuration a b c d ≡ true → is_in_limits which a b c d ≡ true
within_limit which a b c d is = grind arith

pub limit_outside : (which : ConfigNumber) (a b c d : ℕ) → is_in_limits which a b c d ≡ false → is_configuration a b c d ≡ false
limit_outside which a b c d none = limit_by (is_configuration a b c d) refl where
  limit_by : (is : Bool) → is_configuration a b c d ≡ is → is ≡ false
  limit_by true is = let bad : false ≡ true = sym none ∙ within_limit which a b c d is in cc
  limit_by false is = refl

true_false : true ≡ false → ⊥
true_false bad = false≢true (sym bad)

-- Words ------------------------------------------------------------------------------------------

abbrev pub IsWordsWrong : Bool → List Text → Type 0
IsWordsWrong false words = config_words words ≡ None
IsWordsWrong true words = line_words words ≡ Wrong

abbrev used_as : Text → List Text → Option (List ℕ) → Option Usage
used_as word given bounds = option_map (λ bs. record { verb = word; bounds = bs; given = given }) bounds

config_used : (is : Bool) (word : Text) (given : List Text) (usage : Usage) → used_as word given (if is then Some four else None) ≡ Some usage → (is ≡ true) × (four ≡ usage.bounds) × (usage.given ≡ given)
config_used is word given usage used = grind arith

event_used : (star named : Bool) (controls commands : Option (List ℕ)) (word : Text) (given : List Text) (usage : Usage) → used_as word given (if star then controls else (if named then commands else None)) ≡ Some usage
    → ((star ≡ true) × (controls ≡ Some usage.bounds) × (usage.given ≡ given)) ⊎ ((star ≡ false) × (named ≡ true) × (commands ≡ Some usage.bounds) × (usage.given ≡ given))
event_used star named controls commands word given usage used = grind arith

pub star_wrong : (name : Text) (given : List Text) → is_text name (codes "*") ≡ true → control_of Two given ≡ None → line_words (name ∷ given) ≡ Wrong
star_wrong name given star none = rw star (ap asks none)

pub named_wrong : (name : Text) (given : List Text) → is_text name (codes "*") ≡ false → is_name name ≡ true → command_of given ≡ None → line_words (name ∷ given) ≡ Wrong
named_wrong name given session named none = rw (session, named) (ap (calls true name) none)

-- what stands after the first word says nothing, or the first word is neither `*` nor a name
abbrev pub IsTailWrong : Version → List Text → Type 0
IsTailWrong version [] = Unit {0}
IsTailWrong version (name ∷ given) =
    ((is_text name (codes "*") ≡ true) × (control_of version given ≡ None))
    ⊎ (((is_text name (codes "*") ≡ false) × (is_name name ≡ false)) ⊎ ((is_text name (codes "*") ≡ false) × (is_name name ≡ true) × (command_of given ≡ None)))

event_tail : (version : Version) (name word : Text) (given : List Text) (usage : Usage)
    → ((is_text name (codes "*") ≡ true) × (bounds_of (control_rows version) word ≡ Some usage.bounds) × (usage.given ≡ given))
    ⊎ ((is_text name (codes "*") ≡ false) × (is_name name ≡ true) × (bounds_of command_rows word ≡ Some usage.bounds) × (usage.given ≡ given))
    → fit usage.bounds usage.given ≡ false → IsTailWrong version (name ∷ word ∷ given)
event_tail version name word given usage (inl used) none = search (arith, formed_unfit)
event_tail version name word given usage (inr used) none = grind (arith, inr, formed_unfit)

usage_tail : (version : Version) (words : List Text) (usage : Usage) → usage_of version true words ≡ Some usage → fit usage.bounds usage.given ≡ false → IsTailWrong version words
usage_tail version [] usage used none = tt
usage_tail version (name ∷ []) usage used none = cc
usage_tail version (name ∷ word ∷ given) usage used none =
    event_tail version name word given usage (event_used (is_text name (codes "*")) (is_name name) (bounds_of (control_rows version) word) (bounds_of command_rows word) word given usage used) none

usage_config : (words : List Text) (usage : Usage) → usage_of Two false words ≡ Some usage → fit usage.bounds usage.given ≡ false → config_words words ≡ None
usage_config words usage used none = search (arith, config_used, all_config)

limit_wrong : (words : List Text) (usage : Usage) (which : ConfigNumber) → usage_of Two false words ≡ Some usage → IsFirstOutside which usage.given → config_words words ≡ None
limit_wrong [] usage which used outside = cc
limit_wrong (word ∷ given) usage which used outside = search (arith, config_used, outside_none, limit_outside)

history_wrong : (words : List Text) → word_at words 0 ≡ codes "history" → config_words words ≡ None
history_wrong words is = grind arith

other_wrong : (words : List Text) → is_text (word_at words 0) (codes "config") ≡ false → config_words words ≡ None
other_wrong words is = grind arith

log_wrong : (words : List Text) → is_log words ≡ true → config_words words ≡ None
log_wrong words is = other_wrong words (rw (text_is (word_at words 0) (codes "log") (and_parts (is_text (word_at words 0) (codes "log")) (is_text (word_at words 1) (codes "1")) is).0) refl)

pub unnamed_wrong : (words : List Text) → is_text (word_at words 0) (codes "*") ≡ false → is_name (word_at words 0) ≡ false → line_words words ≡ Wrong
unnamed_wrong words session unnamed = grind arith

long_name : (word : Text) → 16 < length word → is_name word ≡ false
long_name word long = grind arith

other_name : (word : Text) → is_alphanumeric word ≡ false → is_name word ≡ false
other_name word none = grind arith

unnamed_tail : (version : Version) (words : List Text) → is_text (word_at words 0) (codes "*") ≡ false → is_name (word_at words 0) ≡ false → IsTailWrong version words
unnamed_tail version words session unnamed = grind arith

alone_tail : (version : Version) (words : List Text) → is_text (word_at words 0) (codes "*") ≡ false → is_name (word_at words 0) ≡ true → length words ≡ 1 → IsTailWrong version words
alone_tail version words session named one = grind arith

unknown_tail : (version : Version) (words : List Text) → is_text (word_at words 0) (codes "*") ≡ false → is_name (word_at words 0) ≡ true → 1 < length words → bounds_of command_rows (word_at words 1) ≡ None → IsTailWrong version words
unknown_tail version words session named some none = search (arith, formed_unknown)

second_tail : (version : Version) (words : List Text) → word_at words 0 ≡ codes "config" → bounds_of command_rows (word_at words 1) ≡ None → IsTailWrong version words
second_tail version [] is none = tt
second_tail version (name ∷ []) is none = alone_tail version (name ∷ []) (rw is refl) (rw is refl) refl
second_tail version (name ∷ word ∷ given) is none = unknown_tail version (name ∷ word ∷ given) (rw is refl) (rw is refl) (omega arith) none

star_alone_tail : (version : Version) (words : List Text) → is_text (word_at words 0) (codes "*") ≡ true → length words ≡ 1 → IsTailWrong version words
star_alone_tail version words star one = grind arith

unknown_control_tail : (version : Version) (words : List Text) → is_text (word_at words 0) (codes "*") ≡ true → 1 < length words → bounds_of (control_rows version) (word_at words 1) ≡ None → IsTailWrong version words
unknown_control_tail version words star some none = search (arith, formed_unknown)

pub words_tail : (version : Version) (words : List Text) (r : LineReason) → IsWordsReason version true words r → IsTailWrong version words
words_tail version words (LineReason.LongName quoted) is = unnamed_tail version words is.0.1 (long_name (word_at words 0) is.1)
words_tail version words (LineReason.BadName quoted) is = unnamed_tail version words is.0.1 (other_name (word_at words 0) is.2)
words_tail version words LineReason.SecondConfig is = second_tail version words is.1 is.2
words_tail version words (LineReason.NoCommand quoted) is = alone_tail version words is.0.0.0.1 is.0.0.1 is.1
words_tail version words (LineReason.UnknownCommand quoted) is = unknown_tail version words is.0.0.0.1 is.0.0.1 is.1 is.2
words_tail version words LineReason.NoControl is = star_alone_tail version words is.0.1 is.1
words_tail version words (LineReason.UnknownControl quoted) is = unknown_control_tail version words is.0.1 is.1 is.2
words_tail version words (LineReason.Operands verb) is = usage_tail version words is.0 is.1 (miscounted is.0.bounds is.0.given is.2.1)
words_tail version words (LineReason.Operand quoted fault) is = usage_tail version words is.0 is.1 (operand_unfit is.0.bounds is.0.given quoted fault is.2)
words_tail version words other is = grind (arith, true_false)

words_config : (words : List Text) (r : LineReason) → IsWordsReason Two false words r → config_words words ≡ None
words_config words (LineReason.History of) is = history_wrong words is.1.0
words_config words LineReason.Log is = log_wrong words is.1
words_config words (LineReason.NotConfig quoted) is = other_wrong words is.1
words_config words (LineReason.Limit which) is = limit_wrong words is.1.0 which is.1.1 is.1.2
words_config words (LineReason.Operands verb) is = usage_config words is.0 is.1 (miscounted is.0.bounds is.0.given is.2.1)
words_config words (LineReason.Operand quoted fault) is = usage_config words is.0 is.1 (operand_unfit is.0.bounds is.0.given quoted fault is.2)
words_config words other is = grind arith

tail_line : (words : List Text) → IsTailWrong Two words → line_words words ≡ Wrong
tail_line words wrong = grind arith

-- what a reason says of words makes them wrong
pub words_wrong : (configured : Bool) (words : List Text) (r : LineReason) → IsWordsReason Two configured words r → IsWordsWrong configured words
words_wrong configured words r is = grind (arith, words_config, tail_line, words_tail)
