-- Walks in the order of their windows.
use Rattle.std.proofs.Common.{◌≡◌, ◌⊎◌, ℕ, ◌+◌, ◌<◌, ◌≤◌, Bool, true, false, if◌then◌else◌, List, ◌∷◌, length, get_or, take, drop, inl, inr, ap, ◌∙◌, arith}
use Rattle.std.proofs.{lemmas.Bool.cases_lt, lemmas.List.get_or_default}
use Rattle.std.proofs.lemmas.List.Edits.{length-insert, get_or-insert_below, get_or-insert_above}
use Rattle.std.proofs.lemmas.List.Elements.{All-append, All-take, All-drop, All-cons}
use Rattle.std.proofs.lemmas.List.Sorted.{IsNonDecreasingBy-insert}
use Rattle.std.specs.List.{All, insert}
use Rattle.mh_report.specs.{declared.walk.Walk.Walk, Auxiliary.{AreInOrder, HasWalk}}

-- so many walks are of a shorter window, and the others aren't
pub record IsPosition (walks : List Walk) (window number : ℕ) : Type 0 where
  pub within : number ≤ length walks
  pub shorter : (k : ℕ) (d : Walk) → k < number → (get_or walks k d).window < window
  pub rest : (k : ℕ) (d : Walk) → number ≤ k → k < length walks → window ≤ (get_or walks k d).window

-- a window that has a walk has one at its position
pub at-position : (walks : List Walk) (window number : ℕ) → AreInOrder walks → IsPosition walks window number → HasWalk walks window → (number < length walks) × ((d : Walk) → (get_or walks number d).window ≡ window)
at-position walks window number order is (k, walk, below, at, of) = by_order (cases_lt k number)
  where
    there : (d : Walk) → (get_or walks k d).window ≡ window
    there d = ap (λ (w : Walk). w.window) (get_or_default walks k d walk below ∙ at) ∙ of

    by_order : (k < number) ⊎ (number ≤ k) → (number < length walks) × ((d : Walk) → (get_or walks number d).window ≡ window)
    by_order (inl less) = absurd (omega (arith, there walk, is.shorter k walk less))
    by_order (inr more) = (omega arith, λ d. omega (arith, there d, order number k d more below, is.rest number d (omega arith) (omega arith)))

-- What is inserted, or isn't ------------------------------------------------------------------------

pub all-inserted : (P : Walk → Type 0) (walks : List Walk) (number : ℕ) (walk : Walk) (is_kept : Bool) → All P walks → P walk → All P (if is_kept then insert walks number walk else walks)
all-inserted P walks number walk true all one = All-append P (take number walks) (walk ∷ drop number walks) (All-take P number walks all) (All-cons P walk (drop number walks) one (All-drop P number walks all))
all-inserted P walks number walk false all one = all

pub order-inserted : (walks : List Walk) (number : ℕ) (walk : Walk) (is_kept : Bool) → AreInOrder walks → IsPosition walks walk.window number → AreInOrder (if is_kept then insert walks number walk else walks)
order-inserted walks number walk true order is = IsNonDecreasingBy-insert (λ (w : Walk). w.window) walks number walk order is.within (λ k d less. let h = is.shorter k d less in omega (arith, h)) (λ k d more below. is.rest k d more below)
order-inserted walks number walk false order is = order

pub has-inserted : (walks : List Walk) (number : ℕ) (walk : Walk) (is_kept : Bool) (window : ℕ) → number ≤ length walks → HasWalk walks window → HasWalk (if is_kept then insert walks number walk else walks) window
has-inserted walks number walk false window within has = has
has-inserted walks number walk true window within (k, one, below, at, of) = elim (cases_lt k number) [
  | inl less ↦ (k, one, omega (arith, longer), get_or-insert_below walks number walk one k less within ∙ at, of)
  | inr more ↦ (k + 1, one, omega (arith, longer), get_or-insert_above walks number walk one k more within ∙ at, of)
]
  where
    longer : length (insert walks number walk) ≡ length walks + 1
    longer = length-insert walks number walk within
