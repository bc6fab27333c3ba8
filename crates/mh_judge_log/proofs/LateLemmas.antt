-- Commands that come after one that began after their end.
use Rattle.std.proofs.Common.{◌≡◌, ◌∙◌, ◌⊎◌, inl, inr, ℕ, ◌+◌, ◌<◌, ◌≤◌, max, List, [], ◌∷◌, ◌++◌, length, take, get_or, ap, sym, refl, subst, arith}
use Rattle.std.proofs.lemmas.Bool.{cases_lt}
use Rattle.std.proofs.lemmas.List.{get_or-take, get_or_default, length-take, take_all, take_more}
use Rattle.std.proofs.lemmas.List.Quantifiers.{all_pairs_push}
use Rattle.mh_judge_log.specs.{declared.timed.Timed.Timed, Times.{IsLateAfter, KeepsTime}}

-- no command before a place began later than this, and one began then, if this isn't 0
pub record IsGreatestBegin (order : List Timed) (place greatest : ℕ) : Type 0 where
  pub none_later : (k : ℕ) (d : Timed) → k < place → (get_or order k d).begin ≤ greatest
  pub begun : (greatest ≡ 0) ⊎ ((k : ℕ) × (k < place) × ((d : Timed) → (get_or order k d).begin ≡ greatest))

-- the commands before a place keep the times, and this is their greatest beginning
pub record KeptBefore (order : List Timed) (place greatest : ℕ) : Type 0 where
  pub keeps : KeepsTime (take place order)
  pub most : IsGreatestBegin order place greatest

pub kept_none : (order : List Timed) → KeptBefore order 0 0
kept_none order = record {
  keeps = λ i j d before below. absurd (omega (arith, before, below));
  most = record { none_later = λ k d below. absurd (omega (arith, below)); begun = inl refl };
}

module _ (order : List Timed) (place greatest : ℕ) (timed : Timed) (within : place < length order) (is : timed ≡ get_or order place timed) (kept : KeptBefore order place greatest) where
  here : (d : Timed) → get_or order place d ≡ timed
  here d = get_or_default order place d timed within ∙ sym is

  pub kept_more : (next : ℕ) → greatest ≤ timed.end → next ≡ max greatest timed.begin → KeptBefore order (place + 1) next
  kept_more next ends is_max = record {
    keeps =
        let one : take (place + 1) order ≡ take place order ++ timed ∷ [] = take_more order place timed within ∙ ap (λ (t : Timed). take place order ++ t ∷ []) (sym is) in
        rw one (all_pairs_push (λ earlier later. earlier.begin ≤ later.end) (take place order) timed kept.keeps front);
    most = record { none_later = λ k d below. later k d below (cases_lt k place); begun = begun (cases_lt greatest timed.begin) kept.most.begun };
  } where
    front : (k : ℕ) (d : Timed) → k < length (take place order) → (get_or (take place order) k d).begin ≤ timed.end
    front k d below =
        let inside : k < place = omega (arith, below, length-take place order) in
        rw (get_or-take place order k d inside) (omega (arith, kept.most.none_later k d inside, ends))

    later : (k : ℕ) (d : Timed) → k < place + 1 → (k < place) ⊎ (place ≤ k) → (get_or order k d).begin ≤ next
    later k d below (inl inside) = omega (arith, kept.most.none_later k d inside, is_max)
    later k d below (inr past) = let same : k ≡ place = omega (arith, below, past) in rw same (omega (arith, is_max, ap (λ (t : Timed). t.begin) (here d)))

    begun : (greatest < timed.begin) ⊎ (timed.begin ≤ greatest) → (greatest ≡ 0) ⊎ ((k : ℕ) × (k < place) × ((d : Timed) → (get_or order k d).begin ≡ greatest))
        → (next ≡ 0) ⊎ ((k : ℕ) × (k < place + 1) × ((d : Timed) → (get_or order k d).begin ≡ next))
    begun (inl later) before = inr (place, omega arith, λ d. ap (λ (t : Timed). t.begin) (here d) ∙ omega (arith, is_max, later))
    begun (inr earlier) (inl none) = inl (omega (arith, is_max, earlier, none))
    begun (inr earlier) (inr found) = let same : greatest ≡ next = omega (arith, is_max, earlier) in inr (found.0, omega (arith, found.1), λ d. found.2 d ∙ same)

pub kept_all : (order : List Timed) (place greatest : ℕ) → KeptBefore order place greatest → length order ≤ place → KeepsTime order
kept_all order place greatest kept past = subst KeepsTime (take_all place order past) kept.keeps

-- a command that ended before the greatest beginning is late
pub late_after : (order : List Timed) (place greatest : ℕ) (timed : Timed) → place < length order → timed ≡ get_or order place timed → IsGreatestBegin order place greatest → timed.end < greatest → (earlier : ℕ) × IsLateAfter order earlier place
late_after order place greatest timed within is most ends = by most.begun where
  by : (greatest ≡ 0) ⊎ ((k : ℕ) × (k < place) × ((d : Timed) → (get_or order k d).begin ≡ greatest)) → (earlier : ℕ) × IsLateAfter order earlier place
  by (inl none) = absurd (omega (arith, none, ends))
  by (inr found) = (
    found.0,
    record {
      comes_before = found.1;
      within = within;
      ended = λ d. omega (arith, found.2 d, ends, ap (λ (t : Timed). t.end) (get_or_default order place d timed within ∙ sym is));
    },
  )
