-- Words that no row of a table reads.
use Rattle.std.proofs.Common.{◌≡◌, ℕ, suc, ◌+◌, ◌<◌, nat_lt, true, Option, Some, None, option_map, List, [], ◌∷◌, length, drop, get_or, refl, sym, ◌∙◌, add-one, drop-cons, below_more, arith}
use Rattle.std.proofs.lemmas.Bool.Decides.{nat_tests}
use Rattle.mh_model.specs.{Bytes.{Text, is_text, numbers}, Forms.Row}
use Rattle.mh_model.proofs.TextLemmas.{text_is}
use Rattle.mh_reasons.specs.{declared.verb.Verb.Verb, Verbs.{verb_text, verb_bounds, bounds_of, NamesRow}}
use Rattle.mh_reasons.specs.{Numbers.IsNumberBelow, Bounds.bounds_above, Operands.{are_numbers_below, fit}}

-- a word that is a verb is named by the row with that verb
pub named : {X : Type 0} (rows : List (Row X)) (word : Text) (v : Verb) → is_text word (verb_text v) ≡ true → bounds_of rows (verb_text v) ≡ Some (verb_bounds v) → NamesRow rows word (Some v)
named rows word v is found = grind (arith, text_is)

-- One word after another -------------------------------------------------------------------------

below_next : (bound v : ℕ) (bounds : List ℕ) (rest : Option (List ℕ)) → v < bound → are_numbers_below (bound ∷ bounds) (option_map (λ ns. v ∷ ns) rest) ≡ are_numbers_below bounds rest
below_next bound v bounds rest below = grind arith

fit_next : (bound : ℕ) (bounds : List ℕ) (word : Text) (words : List Text) → IsNumberBelow bound word → fit (bound ∷ bounds) (word ∷ words) ≡ fit bounds words
fit_next bound bounds word words is = rw is.is (below_next bound is.value bounds (numbers words) is.below)

-- the first i words are numbers, each at most its own of these
pub record Passed (greatest : List ℕ) (words left : List Text) (i : ℕ) : Type 0 where
  pub counted : length words ≡ length greatest
  pub rest : left ≡ drop i words
  pub numbers : (k : ℕ) → k < i → IsNumberBelow (suc (get_or greatest k 0)) (get_or words k [])
  pub same : fit (bounds_above greatest) words ≡ fit (bounds_above (drop i greatest)) left

drop_next : {X : Type 0} (xs : List X) (i : ℕ) (x d : X) (more : List X) → x ∷ more ≡ drop i xs → i < length xs → (get_or xs i d ≡ x) × (drop (suc i) xs ≡ more)
drop_next xs i x d more is below = grind (arith, drop-cons xs i d below)

pub passed_more : (greatest : List ℕ) (words left more : List Text) (i : ℕ) (word : Text) → Passed greatest words left i → i < length greatest → left ≡ word ∷ more → IsNumberBelow (suc (get_or greatest i 0)) word → Passed greatest words more (i + 1)
passed_more greatest words left more i word done below is fits =
    let next = drop_next words i word [] more (sym is ∙ done.rest) (omega (arith, done.counted)) in
    record {
      counted = done.counted;
      rest = rw add-one (sym next.1);
      numbers = below_more (λ k. IsNumberBelow (suc (get_or greatest k 0)) (get_or words k [])) i done.numbers (rw next.0 fits);
      same = done.same ∙ rw (is, add-one, drop-cons greatest i 0 below) (fit_next (suc (get_or greatest i 0)) (bounds_above (drop (suc i) greatest)) word more fits);
    }

-- Controls ---------------------------------------------------------------------------------------

pub renamed : {X : Type 0} (rows : List (Row X)) (word other : Text) (found : Option Verb) → is_text word other ≡ true → NamesRow rows other found → NamesRow rows word found
renamed rows word other found is named = rw (text_is word other is) named
