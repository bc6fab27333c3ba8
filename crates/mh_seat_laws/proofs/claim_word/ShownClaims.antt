-- The rule of the claim word gives the draw rule.
use Rattle.std.proofs.Common.{arith, ◌≡◌, ℕ, zero, suc, cond, eqb, List, [], ◌∷◌, ◌++◌, get_or, sym, ap, ◌∙◌, refl}
use Rattle.std.proofs.{lemmas.Bool.Decides.nat_tests, lemmas.List.Sums.{sum_by-append, sum_by-cons}}
use Rattle.std.proofs.lemmas.Grind.{flat_map-append}
use Rattle.std.specs.{Prelude.{nat_lt, flat_map}, List.sum_by}
use mathlib.Core.Option.{some}
use lib.ListN.{get_elem?}
use Rattle.atomic_table.specs.Table.{State}
use Rattle.mh_model.specs.History.{OnlyLastPast, IsDrawn}
use Rattle.mh_seat_laws.specs.Weights.{weigh, weigh_lists, weigh_below, total}
use Rattle.mh_seat_laws.specs.{ClaimWord.{AllRunOut, Lists, IsClaimed}, Auxiliary.claim_of}

sum_is : (h : ℕ → ℕ) (l : List ℕ) → weigh h l ≡ sum_by h l
sum_is h [] = refl
sum_is h (x ∷ xs) = omega (arith, sum_is h xs, sum_by-cons h x xs)

lists_are : (h : ℕ → ℕ) (ls : Lists) → weigh_lists h ls ≡ sum_by h (flat_map (λ l. l) ls)
lists_are h [] = refl
lists_are h (l ∷ ls) = omega (arith, lists_are h ls, sum_is h l, sum_by-append h l (flat_map (λ k. k) ls))

views_are : (h : ℕ → ℕ) (vs : List Lists) → total (weigh_lists h) vs ≡ sum_by h (flat_map (λ l. l) (flat_map (λ v. v) vs))
views_are h [] = refl
views_are h (v ∷ vs) = let rest : Lists = flat_map (λ w. w) vs in
    omega (arith, views_are h vs, lists_are h v, ap (sum_by h) (flat_map-append (λ (l : List ℕ). l) v rest), sum_by-append h (flat_map (λ l. l) v) (flat_map (λ l. l) rest))

below_is : (x w : ℕ) → weigh_below (λ y. cond (eqb y x) 1 0) w ≡ cond (nat_lt x w) 1 0
below_is x zero = grind (arith, nat_tests)
below_is x (suc w) = let r = below_is x w in grind (arith, nat_tests)

at_each : (bound : ℕ) (ls : Lists) → AllRunOut bound ls → (k : ℕ) → OnlyLastPast bound (get_or ls k [])
at_each bound [] out k = tt
at_each bound (l ∷ ls) out zero = out.0
at_each bound (l ∷ ls) out (suc k) = at_each bound ls out.1 k

pub both_run : (bound : ℕ) (v w : Lists) → AllRunOut bound v → AllRunOut bound w → AllRunOut bound (v ++ w)
both_run bound [] w a b = b
both_run bound (l ∷ ls) w a b = (a.0, both_run bound ls w a.1 b)

all_run : (bound : ℕ) (vs : List Lists) → ((id : ℕ) (v : Lists) → get_elem? vs id ≡ some v → AllRunOut bound v) → AllRunOut bound (flat_map (λ v. v) vs)
all_run bound [] out = tt
all_run bound (v ∷ vs) out = both_run bound v (flat_map (λ w. w) vs) (out 0 v refl) (all_run bound vs (λ id w e. out (suc id) w e))

pub claim_of-drawn : (about : ℕ × ℕ) (table : State (Unit {0}) Lists) → IsClaimed about table → IsDrawn about.0 (claim_of table)
claim_of-drawn about table rule = record {
  each_once = λ x. sym (views_are (λ y. cond (eqb y x) 1 0) table.views) ∙ (rule.drawn (λ y. cond (eqb y x) 1 0) ∙ below_is x (get_or table.words 0 0));
  only_last_past = at_each about.0 (flat_map (λ v. v) table.views) (all_run about.0 table.views rule.run_out);
}
