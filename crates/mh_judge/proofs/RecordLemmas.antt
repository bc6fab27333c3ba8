-- Elements of a list that are taken one after another.
use Rattle.std.proofs.Common.{◌≡◌, ℕ, zero, suc, ◌<◌, ◌≤◌, List, [], ◌∷◌, ◌++◌, length, take, drop, Option, Some, None, refl, ap, arith}
use Rattle.std.proofs.lemmas.List.{length-drop}
use Rattle.std.specs.Prelude.{MatchOption}

-- an element and those after it are what is left of a list
pub record Next {X : Type 0} (xs : List X) (i : ℕ) (x : X) (more : List X) : Type 0 where
  pub below : i < length xs
  pub cut : take (suc i) xs ≡ take i xs ++ x ∷ []
  pub left : more ≡ drop (suc i) xs

pub next_of : {X : Type 0} (xs : List X) (i : ℕ) (x : X) (more : List X) → drop i xs ≡ x ∷ more → Next xs i x more
next_of [] zero x more is = cc
next_of [] (suc i) x more is = cc
next_of (y ∷ ys) zero x more is =
    let first : y ≡ x = cc in
    let rest : more ≡ ys = cc in
    record { below = omega arith; cut = ap (λ z. z ∷ []) first; left = rest }
next_of (y ∷ ys) (suc i) x more is =
    let next = next_of ys i x more is in
    record { below = omega (arith, next.below); cut = ap (λ zs. y ∷ zs) next.cut; left = next.left }

-- nothing is left only after all
pub none_left : {X : Type 0} (xs : List X) (i : ℕ) → drop i xs ≡ [] → length xs ≤ i
none_left xs i none = omega (arith, ap length none, length-drop i xs)

-- a reader that gave no element has come to the end
pub ended : {X P : Type 0} (Q : X → Type 0) (next : Option X) → ((x : X) → next ≡ Some x → ⊥) → MatchOption next P Q → P
ended Q None other end = end
ended Q (Some x) other end = absurd (other x refl)
