-- A line that is the first of version 2 is what is written of its configuration.
use Rattle.std.proofs.Common.{◌≡◌, ◌∙◌, ℕ, ◌==◌, ◌&&◌, cond, Bool, true, false, Some, None, option_and_then, List, [], ◌∷◌, map, ap, sym, refl, codes, decimal, arith}
use Rattle.std.proofs.lemmas.Bool.{and_parts, eqb-true}
use Rattle.mh_model.specs.{declared.config.Config.Config, declared.config.Rules.Rules}
use Rattle.mh_model.specs.{declared.config.Rules.TheVariants.{First, Second}, Limits.is_configuration}
use Rattle.mh_model.specs.{Configs.configured_by, Bytes.{Text, joined, words, is_text, numbers}}
use Rattle.mh_model.specs.HistoryTexts.{rules_number, rules_of, header_words, header_by, header_of}
use Rattle.mh_text_laws.proofs.round_trips.HeaderRoundTrips.{header_numbers}
use Rattle.mh_text_laws.proofs.rewritings.NumbersWrittenAgain.{chained, numbers_are}
use Rattle.mh_text_laws.proofs.rewritings.WordsWrittenAgain.{joined-words}
use Rattle.mh_model.proofs.TextLemmas.{text_is}

rules_are : (n : ℕ) (rules : Rules) → rules_of n ≡ Some rules → rules_number rules ≡ n
rules_are n rules h = by (n == 1) (n == 2) refl refl h where
  by : (one two : Bool) → (n == 1) ≡ one → (n == 2) ≡ two → cond one (Some First) (cond two (Some Second) None) ≡ Some rules → rules_number rules ≡ n
  by true two is other k = let same : First ≡ rules = cc in ap rules_number (sym same) ∙ sym (eqb-true n 1 is)
  by false true is other k = let same : Second ≡ rules = cc in ap rules_number (sym same) ∙ sym (eqb-true n 2 other)
  by false false is other k = cc

configured_is : (rules : Rules) (pages quantum trigger every : ℕ) (answer : Bool) (is : is_configuration pages quantum trigger every ≡ answer) (c : Config)
    → configured_by rules pages quantum trigger every answer is ≡ Some c
    → header_numbers c ≡ rules_number rules ∷ pages ∷ quantum ∷ trigger ∷ every ∷ []
configured_is rules pages quantum trigger every answer is c h = grind (arith, header_numbers)

header_by_is : (ns : List ℕ) (c : Config) → header_by ns ≡ Some c → header_numbers c ≡ ns
header_by_is ns c h = grind (arith, chained, configured_is, rules_are)

header_is : (words : List Text) (c : Config) → header_of words ≡ Some c → header_words c ≡ words
header_is [] c h = cc
header_is (w1 ∷ []) c h = cc
header_is (w1 ∷ w2 ∷ []) c h = cc
header_is (w1 ∷ w2 ∷ w3 ∷ ws) c h = by (is_text w1 (codes "history") && (is_text w2 (codes "2") && is_text w3 (codes "rules"))) refl h where
  all_same : (more : List Text) → w1 ≡ codes "history" → w2 ≡ codes "2" → w3 ≡ codes "rules" → more ≡ ws → codes "history" ∷ codes "2" ∷ codes "rules" ∷ more ≡ w1 ∷ w2 ∷ w3 ∷ ws
  all_same more p q r s = cc

  by : (is : Bool) → (is_text w1 (codes "history") && (is_text w2 (codes "2") && is_text w3 (codes "rules"))) ≡ is → cond is (option_and_then header_by (numbers ws)) None ≡ Some c
      → header_words c ≡ w1 ∷ w2 ∷ w3 ∷ ws
  by false is k = cc
  by true is k =
      let first = and_parts (is_text w1 (codes "history")) (is_text w2 (codes "2") && is_text w3 (codes "rules")) is in
      let next = and_parts (is_text w2 (codes "2")) (is_text w3 (codes "rules")) first.1 in
      let found = chained header_by (numbers ws) c k in
      let written : map decimal (header_numbers c) ≡ ws = ap (map decimal) (header_by_is found.from c found.then) ∙ (numbers_are ws found.from found.is).0 in
      all_same (map decimal (header_numbers c)) (text_is w1 (codes "history") first.0) (text_is w2 (codes "2") next.0) (text_is w3 (codes "rules") next.1) written

pub header_line_is : (line : Text) (c : Config) → header_of (words line) ≡ Some c → joined (header_words c) ≡ line
header_line_is line c h = ap joined (header_is (words line) c h) ∙ joined-words line
