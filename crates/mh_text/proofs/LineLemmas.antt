-- Lines with a configuration, and lines of a session.
use Rattle.std.proofs.Common.{◌≡◌, ℕ, nat_lt, Some, None, option_and_then, List, [], ◌∷◌, length, get_or, refl, arith}
use Rattle.mh_model.specs.{Configs.configured, Bytes.{Text, numbers}, Forms.{within, u32}, Script.config_of}
use Rattle.mh_text.specs.Words.{few_numbers}
use Rattle.mh_text.proofs.{WordLemmas.none_of, FormLemmas.small_same}

pub config_other : (found : List ℕ) → (length found ≡ 4 → ⊥) → config_of found ≡ None
config_other [] other = refl
config_other (a ∷ []) other = refl
config_other (a ∷ b ∷ []) other = refl
config_other (a ∷ b ∷ c ∷ []) other = refl
config_other (a ∷ b ∷ c ∷ d ∷ []) other = absurd (other refl)
config_other (a ∷ b ∷ c ∷ d ∷ e ∷ found) other = refl

pub no_config : (words : List Text) → few_numbers words ≡ None → option_and_then config_of (numbers words) ≡ None
no_config words few = none_of config_of (λ found many. config_other found (λ four. omega arith)) words few

pub config_four : (found : List ℕ) → length found ≡ 4 → config_of found ≡ configured (get_or found 0 0) (get_or found 1 0) (get_or found 2 0) (get_or found 3 0)
config_four [] four = absurd (omega arith)
config_four (a ∷ []) four = absurd (omega arith)
config_four (a ∷ b ∷ []) four = absurd (omega arith)
config_four (a ∷ b ∷ c ∷ []) four = absurd (omega arith)
config_four (a ∷ b ∷ c ∷ d ∷ []) four = refl
config_four (a ∷ b ∷ c ∷ d ∷ e ∷ found) four = absurd (omega arith)

pub config_small : (pages quantum trigger every p q t e : ℕ) → within (nat_lt pages u32) pages ≡ Some p → within (nat_lt quantum u32) quantum ≡ Some q → within (nat_lt trigger u32) trigger ≡ Some t → within (nat_lt every u32) every ≡ Some e
    → configured p q t e ≡ configured pages quantum trigger every
config_small pages quantum trigger every p q t e a b c d = rw (small_same pages p a, small_same quantum q b, small_same trigger t c, small_same every e d) refl
