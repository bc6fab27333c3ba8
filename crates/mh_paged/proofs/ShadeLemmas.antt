-- Deeds of blocks that became grey.
use Rattle.std.proofs.Common.{◌≡◌, ℕ, zero, suc, ◌+◌, List, [], ◌∷◌, ◌++◌, Some, map, take, drop, slice_get, zero-add, suc-add, ap}
use Rattle.std.proofs.lemmas.Option.{none-some, same_Some}
use Rattle.mh_model.specs.declared.deed.Deed.{Deed}

-- the last of the first so many
last-shaded : (grey : List ℕ) (index place : ℕ) → slice_get grey index ≡ Some place → map (λ p. Deed.Shade p) (take (suc index) grey) ≡ map (λ p. Deed.Shade p) (take index grey) ++ Deed.Shade place ∷ []
last-shaded [] index place at = absurd (none-some place at)
last-shaded (first ∷ grey) zero place at = ap (λ p. Deed.Shade p ∷ []) (same_Some first place at)
last-shaded (first ∷ grey) (suc index) place at = ap (λ deeds. Deed.Shade first ∷ deeds) (last-shaded grey index place at)

-- the list from a number on
pub one-shaded : (grey : List ℕ) (before index place : ℕ) → slice_get grey (before + index) ≡ Some place
    → map (λ p. Deed.Shade p) (take (suc index) (drop before grey)) ≡ map (λ p. Deed.Shade p) (take index (drop before grey)) ++ Deed.Shade place ∷ []
one-shaded [] before index place at = absurd (none-some place at)
one-shaded (first ∷ grey) zero index place at = last-shaded (first ∷ grey) index place (rw zero-add at at)
one-shaded (first ∷ grey) (suc before) index place at = one-shaded grey before index place (rw suc-add at at)
