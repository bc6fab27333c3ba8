-- First lines of version 2.
use Rattle.std.proofs.Common.{◌≡◌, ℕ, ◌<◌, nat_lt, true, Option, Some, None, option_map, option_and_then, List, [], ◌∷◌, length, refl, arith}
use Rattle.std.specs.Prelude.{codes}
use Rattle.mh_model.specs.{Configs.{configured, configured_first}, Bytes.{Text, is_text, number, numbers}}
use Rattle.mh_model.specs.{Forms.{within, u32}, HistoryTexts.{header_by, header_of}}
use Rattle.mh_text.specs.Words.{few_numbers}
use Rattle.mh_text.proofs.{WordLemmas.none_of, FormLemmas.small_same}

pub header_first : (rules pages quantum trigger every p q t e : ℕ) → rules ≡ 1 → within (nat_lt pages u32) pages ≡ Some p → within (nat_lt quantum u32) quantum ≡ Some q → within (nat_lt trigger u32) trigger ≡ Some t
    → within (nat_lt every u32) every ≡ Some e → configured_first p q t e ≡ header_by (rules ∷ pages ∷ quantum ∷ trigger ∷ every ∷ [])
header_first rules pages quantum trigger every p q t e is a b c d = rw (is, small_same pages p a, small_same quantum q b, small_same trigger t c, small_same every e d) refl

pub header_second : (rules pages quantum trigger every p q t e : ℕ) → rules ≡ 2 → within (nat_lt pages u32) pages ≡ Some p → within (nat_lt quantum u32) quantum ≡ Some q → within (nat_lt trigger u32) trigger ≡ Some t
    → within (nat_lt every u32) every ≡ Some e → configured p q t e ≡ header_by (rules ∷ pages ∷ quantum ∷ trigger ∷ every ∷ [])
header_second rules pages quantum trigger every p q t e is a b c d = rw (is, small_same pages p a, small_same quantum q b, small_same trigger t c, small_same every e d) refl

header_long : (rules : ℕ) (found : List ℕ) → 4 < length found → header_by (rules ∷ found) ≡ None
header_long rules [] many = refl
header_long rules (a ∷ []) many = refl
header_long rules (a ∷ b ∷ []) many = refl
header_long rules (a ∷ b ∷ c ∷ []) many = refl
header_long rules (a ∷ b ∷ c ∷ d ∷ []) many = absurd (omega arith)
header_long rules (a ∷ b ∷ c ∷ d ∷ e ∷ found) many = refl

rules_first : (rules : ℕ) (more : Option (List ℕ)) → option_and_then (λ ns. header_by (rules ∷ ns)) more ≡ None → option_and_then header_by (option_map (λ ns. rules ∷ ns) more) ≡ None
rules_first rules None none = refl
rules_first rules (Some ns) none = none

no_numbers : (word : Text) (words : List Text) (rules : ℕ) → number word ≡ Some rules → few_numbers words ≡ None → option_and_then header_by (numbers (word ∷ words)) ≡ None
no_numbers word words rules is few = rw is (rules_first rules (numbers words) (none_of (λ ns. header_by (rules ∷ ns)) (header_long rules) words few))

header_line : (a b c : Text) (rest : List Text) → is_text a (codes "history") ≡ true → is_text b (codes "2") ≡ true → is_text c (codes "rules") ≡ true → header_of (a ∷ b ∷ c ∷ rest) ≡ option_and_then header_by (numbers rest)
header_line a b c rest x y z = rw (x, y, z) refl

pub header_none : (line after_a after_b after_c words : List Text) (a b c word : Text) (rules : ℕ) → line ≡ a ∷ after_a → after_a ≡ b ∷ after_b → after_b ≡ c ∷ after_c → after_c ≡ word ∷ words → is_text a (codes "history") ≡ true
    → is_text b (codes "2") ≡ true → is_text c (codes "rules") ≡ true → number word ≡ Some rules → few_numbers words ≡ None → header_of line ≡ None
header_none line after_a after_b after_c words a b c word rules first second third fourth x y z is few = grind (arith, header_line, no_numbers)
