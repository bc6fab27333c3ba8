-- First lines of histories of version 2.
use Rattle.std.proofs.Common.{◌≡◌, ℕ, ◌==◌, nat_le, Bool, true, false, Option, Some, None, option_map, option_and_then, List, [], ◌∷◌, length, get_or, inl, inr, ◌⊎◌, refl, sym, ap, ◌∙◌, arith}
use Rattle.std.proofs.lemmas.Bool.Decides.{nat_tests}
use Rattle.std.specs.Prelude.{codes}
use Rattle.mh_model.specs.{declared.config.Rules.Rules, declared.config.Rules.TheVariants.{First, Second}}
use Rattle.mh_model.specs.{Bytes.{Text, is_text, numbers}, Configs.{configured_by, configured_under}}
use Rattle.mh_model.specs.{Limits.is_configuration, Forms.u64, HistoryTexts.{rules_of, header_by}}
use Rattle.mh_model.proofs.TextLemmas.{text_is}
use Rattle.mh_text.specs.Words.{few_numbers}
use Rattle.mh_text.proofs.{WordLemmas.length_numbers, RowLemmas.below_other}
use Rattle.mh_reasons.specs.{declared.reason.ConfigNumber.ConfigNumber, Operands.{are_numbers_below, fit}}
use Rattle.mh_reasons.specs.{Reasons.{is_in_limits, are_in_limits_before}, HistoryReasons.{headed, IsGivenOutside}}

pub headed_by : (first second third : Text) (words mid given : List Text) → is_text first (codes "history") ≡ true → is_text second (codes "2") ≡ true → is_text third (codes "rules") ≡ true
    → words ≡ second ∷ mid → mid ≡ third ∷ given → first ∷ words ≡ headed given
headed_by first second third words mid given a b c next after = rw (next, after, text_is first (codes "history") a, text_is second (codes "2") b, text_is third (codes "rules") c) refl

abbrev five : List ℕ
five = u64 ∷ u64 ∷ u64 ∷ u64 ∷ u64 ∷ []

-- numbers that fit bounds are as many
fit_count : (bounds : List ℕ) (all : Option (List ℕ)) → are_numbers_below bounds all ≡ true → (ns : List ℕ) × (all ≡ Some ns) × (length ns ≡ length bounds)
fit_count bounds None fits = cc
fit_count bounds (Some ns) fits = (ns, refl, count_by (length bounds == length ns) refl) where
  count_by : (is : Bool) → (length bounds == length ns) ≡ is → length ns ≡ length bounds
  count_by true same = grind (arith, nat_tests)
  count_by false same = let bad : false ≡ true = sym (below_other bounds ns (λ e. grind (arith, nat_tests))) ∙ fits in cc

rest_by : (rest : Option (List ℕ)) (rules : ℕ) (ns : List ℕ) → option_map (λ more. rules ∷ more) rest ≡ Some ns → (more : List ℕ) × (rest ≡ Some more) × (ns ≡ rules ∷ more)
rest_by rest rules ns is = grind arith

-- the words after that of the rules are four numbers
pub four_left : (words rest : List Text) (rules : ℕ) → fit five words ≡ true → numbers words ≡ option_map (λ ns. rules ∷ ns) (numbers rest) → (ns : List ℕ) × (few_numbers rest ≡ Some ns) × (numbers words ≡ Some (rules ∷ ns)) × (length ns ≡ 4)
four_left words rest rules fits read = grind (arith, fit_count, rest_by, nat_le, nat_tests, length_numbers)

configured_none : (rules : Rules) (pages quantum trigger every : ℕ) (answer : Bool) (is : is_configuration pages quantum trigger every ≡ answer) → configured_by rules pages quantum trigger every answer is ≡ None → answer ≡ false
configured_none rules pages quantum trigger every answer is none = grind arith

header_none : (number : ℕ) (rules : Rules) (a b c d : ℕ) → rules_of number ≡ Some rules → header_by (number ∷ a ∷ b ∷ c ∷ d ∷ []) ≡ None → is_configuration a b c d ≡ false
header_none number rules a b c d is none = grind arith

known_rules : (number : ℕ) → ((number ≡ 1 → ⊥) × (number ≡ 2)) ⊎ (number ≡ 1) → (rules : Rules) × (rules_of number ≡ Some rules)
known_rules number is = grind arith

outside_four : (words : List Text) (number : ℕ) (ns : List ℕ) (which : ConfigNumber) → numbers words ≡ Some (number ∷ ns) → length ns ≡ 4 → header_by (number ∷ ns) ≡ None → (rules : Rules) × (rules_of number ≡ Some rules)
    → ((every : ℕ) → is_configuration (get_or ns 0 0) (get_or ns 1 0) (get_or ns 2 0) every ≡ false → is_in_limits which (get_or ns 0 0) (get_or ns 1 0) (get_or ns 2 0) every ≡ false)
    → ((every : ℕ) → are_in_limits_before which (get_or ns 0 0) (get_or ns 1 0) (get_or ns 2 0) every ≡ true)
    → IsGivenOutside which words
outside_four words number ns which read count none known outside earlier = search (arith, header_none)

pub given_outside : (words rest : List Text) (number : ℕ) (found : List ℕ) (which : ConfigNumber) → fit five words ≡ true → numbers words ≡ option_map (λ ns. number ∷ ns) (numbers rest) → few_numbers rest ≡ Some found
    → option_and_then header_by (numbers words) ≡ None → ((number ≡ 1 → ⊥) × (number ≡ 2)) ⊎ (number ≡ 1)
    → ((every : ℕ) → is_configuration (get_or found 0 0) (get_or found 1 0) (get_or found 2 0) every ≡ false → is_in_limits which (get_or found 0 0) (get_or found 1 0) (get_or found 2 0) every ≡ false)
    → ((every : ℕ) → are_in_limits_before which (get_or found 0 0) (get_or found 1 0) (get_or found 2 0) every ≡ true)
    → IsGivenOutside which words
given_outside words rest number found which fits read few none rules outside earlier = grind (arith, four_left, outside_four, known_rules)
