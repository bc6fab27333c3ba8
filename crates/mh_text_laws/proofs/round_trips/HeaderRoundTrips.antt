-- The first line of version 2 is read as it was written.
use Rattle.std.proofs.Common.{◌≡◌, ◌∙◌, ℕ, ◌≤◌, nat_lt, nat_le, true, Some, List, [], ◌∷◌, map, ap, codes, decimal, arith}
use Rattle.std.proofs.lemmas.Bool.{and_parts, and_from, leb-true, lt-ltb}
use Rattle.mh_model.specs.{declared.config.Config.Config, declared.config.Rules.Rules, Limits.is_configuration}
use Rattle.mh_model.specs.{Bytes.{words, joined}, Forms.u64, Replies.are_u64}
use Rattle.mh_model.specs.HistoryTexts.{rules_number, rules_of, header_words, header_of}
use Rattle.mh_model.proofs.ConfigLemmas.{configured-within}
use Rattle.mh_text_laws.proofs.round_trips.WordRoundTrips.{numbers-decimal, decimal_word, is_word, are_words, words-joined, all-decimals}

-- the numbers of a configuration are small
pub record WithinLimits (pages quantum trigger every : ℕ) : Type 0 where
  pub pages_most : pages ≤ 4096
  pub quantum_most : quantum ≤ 1000000
  pub trigger_most : trigger ≤ 4096
  pub every_most : every ≤ 1000000

within_limits : (p q t e : ℕ) → is_configuration p q t e ≡ true → WithinLimits p q t e
within_limits p q t e h = grind (arith, and_parts, nat_le, leb-true)

pub config_limits : (c : Config) → WithinLimits c.pages c.quantum c.trigger c.every
config_limits c = within_limits c.pages c.quantum c.trigger c.every c.in_limits

rules_small : (r : Rules) → nat_lt (rules_number r) u64 ≡ true
rules_small r = grind (arith, lt-ltb)

rules_of-number : (r : Rules) → rules_of (rules_number r) ≡ Some r
rules_of-number r = grind arith

-- what stands after `rules`
abbrev pub header_numbers : Config → List ℕ
header_numbers c = rules_number c.rules ∷ c.pages ∷ c.quantum ∷ c.trigger ∷ c.every ∷ []

pub small_header : (c : Config) → are_u64 (header_numbers c) ≡ true
small_header c = search (arith, config_limits, lt-ltb, and_from, rules_small)

pub header_are_words : (c : Config) → are_words (header_words c) ≡ true
header_are_words c = all-decimals is_word decimal_word (header_numbers c) (small_header c)

header_of-words : (c : Config) → header_of (header_words c) ≡ Some c
header_of-words c =
    rw (numbers-decimal (rules_number c.rules ∷ c.pages ∷ c.quantum ∷ c.trigger ∷ c.every ∷ []) (small_header c), rules_of-number c.rules)
    (configured-within c.rules c.pages c.quantum c.trigger c.every c.in_limits)

pub header_of-line : (c : Config) → header_of (words (joined (header_words c))) ≡ Some c
header_of-line c = ap header_of (words-joined (codes "history") (codes "2" ∷ codes "rules" ∷ map decimal (header_numbers c)) (header_are_words c)) ∙ header_of-words c
