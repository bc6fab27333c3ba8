-- The words of a wrong line.
use Rattle.std.proofs.Common.{◌≡◌, ℕ, ◌<◌, Bool, true, false, Option, Some, None, option_map, option_and_then, List, [], ◌∷◌, length, get_or, refl, sym, ap, ◌∙◌, arith}
use Rattle.std.specs.Prelude.{if◌then◌else◌, codes}
use Rattle.mh_model.specs.{Bytes.{Text, words, is_text, is_name, numbers}, Configs.configured_by}
use Rattle.mh_model.specs.Limits.{is_configuration}
use Rattle.mh_model.specs.Forms.{within, are_below, u64, command_of, command_rows, control_rows}
use Rattle.mh_model.specs.{declared.command.Command.Command, declared.config.Rules.TheVariants.Second}
use Rattle.mh_model.specs.Script.{Line, Wrong, Blank, calls, line_words, config_of, config_words}
use Rattle.mh_model.specs.{declared.history.Version.Version, declared.history.Version.TheVariants.Two}
use Rattle.mh_model.proofs.TextLemmas.{text_is}
use Rattle.mh_text.specs.Words.{few_numbers}
use Rattle.mh_text.proofs.{WordLemmas.{few_same, none_of}, RowLemmas.below_other}
use Rattle.mh_reasons.specs.{declared.reason.ConfigNumber.ConfigNumber, declared.reason.LineReason.LineReason}
use Rattle.mh_reasons.specs.{declared.verb.Verb.Verb, Lines.{HasPair, IsPlain}}
use Rattle.mh_reasons.specs.Verbs.{verb_text, verb_bounds, NamesRow, config_bounds, Usage, usage_of}
use Rattle.mh_reasons.specs.Operands.{are_numbers_below, fit, IsOperandReason}
use Rattle.mh_reasons.specs.Reasons.{is_in_limits, are_in_limits_before, IsWrong, IsWordsReason, IsLineReason}

-- a wrong line isn't blank, and its words are wrong
wrong_by : (is : Bool) (more : Line) → (if is then Blank else more) ≡ Wrong → (is ≡ false) × (more ≡ Wrong)
wrong_by is more wrong = grind arith

calls_wrong : (name : Text) (command : Option Command) → calls true name command ≡ Wrong → command ≡ None
calls_wrong name command wrong = grind arith

pub command_wrong : (first : Text) (given : List Text) → line_words (first ∷ given) ≡ Wrong → is_text first (codes "*") ≡ false → is_name first ≡ true → command_of given ≡ None
command_wrong first given wrong star named = grind (arith, calls_wrong)

-- Usages -----------------------------------------------------------------------------------------

-- how a verb is used, with these words after it
abbrev pub usage : Verb → List Text → Usage
usage v given = record { verb = verb_text v; bounds = verb_bounds v; given = given }

pub spread : (version : Version) (configured : Bool) (words given : List Text) (v : Verb) (r : LineReason) → usage_of version configured words ≡ Some (usage v given) → IsOperandReason v (verb_bounds v) given r → IsWordsReason version configured words r
spread version configured words given v r used is = grind arith

used_by : (word : Text) (given : List Text) (v : Verb) (bounds : Option (List ℕ)) → bounds ≡ Some (verb_bounds v) → word ≡ verb_text v
    → option_map (λ bs. record { verb = word; bounds = bs; given = given }) bounds ≡ Some (usage v given)
used_by word given v bounds known is = rw (known, is) refl

pub config_usage : (first : Text) (given : List Text) → is_text first (codes "config") ≡ true → usage_of Two false (first ∷ given) ≡ Some (usage Verb.Config given)
config_usage first given is = used_by first given Verb.Config (config_bounds first) (rw is refl) (text_is first (codes "config") is)

pub control_usage : (version : Version) (entry given : List Text) (word : Text) (v : Verb) → entry ≡ word ∷ given → NamesRow (control_rows version) word (Some v) → usage_of version true (codes "*" ∷ entry) ≡ Some (usage v given)
control_usage version entry given word v is named = grind arith

pub command_usage : (version : Version) (name : Text) (entry given : List Text) (word : Text) (v : Verb) → is_text name (codes "*") ≡ false → is_name name ≡ true → entry ≡ word ∷ given → NamesRow command_rows word (Some v)
    → usage_of version true (name ∷ entry) ≡ Some (usage v given)
command_usage version name entry given word v session letters is named = grind arith

-- The configuration ------------------------------------------------------------------------------

config_read : (first : Text) (given : List Text) → config_words (first ∷ given) ≡ None → is_text first (codes "config") ≡ true → option_and_then config_of (numbers given) ≡ None
config_read first given none is = rw is at none

abbrev four : List ℕ
four = u64 ∷ u64 ∷ u64 ∷ u64 ∷ []

four_of : (found : List ℕ) → 4 < length found → within (are_below four found) found ≡ None
four_of found many = rw (below_other four found (λ same. omega arith)) refl

within_none : {X : Type 0} (is : Bool) (x : X) → within is x ≡ None → is ≡ false
within_none is x none = grind arith

few_unfit : (all : Option (List ℕ)) → option_and_then (λ found. within (are_below four found) found) all ≡ None → are_numbers_below four all ≡ false
few_unfit all none = grind arith

pub config_unfit : (given : List Text) → few_numbers given ≡ None → fit four given ≡ false
config_unfit given none = few_unfit (numbers given) (none_of (λ found. within (are_below four found) found) four_of given none)

configured_none : (pages quantum trigger every : ℕ) (answer : Bool) (is : is_configuration pages quantum trigger every ≡ answer) → configured_by Second pages quantum trigger every answer is ≡ None → answer ≡ false
configured_none pages quantum trigger every answer is none = grind arith

limit_four : (first : Text) (given : List Text) (found : List ℕ) (which : ConfigNumber) → numbers given ≡ Some found → length found ≡ 4 → config_of found ≡ None → is_text first (codes "config") ≡ true
    → ((every : ℕ) → is_configuration (get_or found 0 0) (get_or found 1 0) (get_or found 2 0) every ≡ false → is_in_limits which (get_or found 0 0) (get_or found 1 0) (get_or found 2 0) every ≡ false)
    → ((every : ℕ) → are_in_limits_before which (get_or found 0 0) (get_or found 1 0) (get_or found 2 0) every ≡ true)
    → IsWordsReason Two false (first ∷ given) (LineReason.Limit which)
limit_four first given (a ∷ b ∷ c ∷ d ∷ []) which read count none is outside earlier =
    let out : is_in_limits which a b c d ≡ false = outside d (configured_none a b c d (is_configuration a b c d) refl none) in
    (refl, (usage Verb.Config given, config_usage first given is, record { pages = a; quantum = b; trigger = c; every = d; read = read; outside = out; earlier = earlier d }))
limit_four first given found which read count none is outside earlier = absurd (omega arith)

pub limit : (first : Text) (given : List Text) (found : List ℕ) (which : ConfigNumber) → config_words (first ∷ given) ≡ None → is_text first (codes "config") ≡ true → few_numbers given ≡ Some found → length found ≡ 4
    → ((every : ℕ) → is_configuration (get_or found 0 0) (get_or found 1 0) (get_or found 2 0) every ≡ false → is_in_limits which (get_or found 0 0) (get_or found 1 0) (get_or found 2 0) every ≡ false)
    → ((every : ℕ) → are_in_limits_before which (get_or found 0 0) (get_or found 1 0) (get_or found 2 0) every ≡ true)
    → IsWordsReason Two false (first ∷ given) (LineReason.Limit which)
limit first given found which wrong is few count outside earlier =
    let read : numbers given ≡ Some found = few_same given found few in
    limit_four first given found which read count (sym (ap (option_and_then config_of) read) ∙ config_read first given wrong is) is outside earlier

-- Lines ------------------------------------------------------------------------------------------

-- what is said of its words is said of a line
pub of_words : (configured : Bool) (line : Text) (r : LineReason) → ¬ HasPair line 32 35 → IsPlain line → IsWordsReason Two configured (words line) r → IsLineReason configured line r
of_words configured line LineReason.Comment uncommented plain is = absurd is
of_words configured line r uncommented plain is = grind arith

pub event_words : (configured : Bool) (line first : Text) (given : List Text) → configured ≡ true → IsWrong configured line → words line ≡ first ∷ given → line_words (first ∷ given) ≡ Wrong
event_words configured line first given after wrong split = grind arith

pub of_event : (configured : Bool) (line first : Text) (given : List Text) (r : LineReason) → configured ≡ true → ¬ HasPair line 32 35 → IsPlain line → words line ≡ first ∷ given → IsWordsReason Two true (first ∷ given) r → IsLineReason configured line r
of_event true line first given r after uncommented plain split is = of_words true line r uncommented plain (rw split is)
of_event false line first given r after uncommented plain split is = cc

pub of_config : (configured : Bool) (line first : Text) (given : List Text) (r : LineReason) → configured ≡ false → ¬ HasPair line 32 35 → IsPlain line → words line ≡ first ∷ given → IsWordsReason Two false (first ∷ given) r → IsLineReason configured line r
of_config true line first given r before uncommented plain split is = cc
of_config false line first given r before uncommented plain split is = of_words false line r uncommented plain (rw split is)
