-- The first element and the others, at each place.
use Rattle.std.proofs.Common.{arith, ◌≡◌, ℕ, ◌+◌, ◌<◌, zero, suc, List, [], ◌∷◌, ◌++◌, length, get_or, set, subst, sym, ap, refl}
use Rattle.mh_scan.specs.Auxiliary.{AllFrom, ChangesFrom}

module _ {T : Type 0} (P : ℕ → T → Type 0) where
  pub rest_of : (base : ℕ) (a b xs : List T) → xs ≡ a ++ b → length a ≡ 1 → AllFrom P base xs → AllFrom P (base + 1) b
  rest_of base [] b xs is one all = absurd (omega arith)
  rest_of base (x ∷ y ∷ ys) b xs is one all = absurd (omega arith)
  rest_of base (x ∷ []) b xs is one all = let h = subst (AllFrom P base) is all in record {
    room = let r = h.room in omega arith;
    each = λ k d lt. subst (λ (i : ℕ). P i (get_or b k d)) {x = base + suc k} (omega arith) (h.each (suc k) d (omega arith));
  }

module _ {T : Type 0} (R : ℕ → T → T → Type 0) where
  pub both_of : (base : ℕ) (a c b d xs : List T) → xs ≡ a ++ b → length a ≡ 1 → length c ≡ 1 → ChangesFrom R base a c → ChangesFrom R (base + 1) b d → ChangesFrom R base xs (c ++ d)
  both_of base [] c b d xs is one two first rest = absurd (omega arith)
  both_of base (x ∷ y ∷ ys) c b d xs is one two first rest = absurd (omega arith)
  both_of base (x ∷ []) [] b d xs is one two first rest = absurd (omega arith)
  both_of base (x ∷ []) (u ∷ v ∷ vs) b d xs is one two first rest = absurd (omega arith)
  both_of base (x ∷ []) (u ∷ []) b d xs is one two first rest = subst (λ (l : List T). ChangesFrom R base l (u ∷ d)) (sym is) record { each = at }
    where
      at : (k : ℕ) (e : T) → k < length (x ∷ b) → R (base + k) (get_or (x ∷ b) k e) (get_or (u ∷ d) k e)
      at zero e lt = first.each 0 e (omega arith)
      at (suc k) e lt = subst (λ (i : ℕ). R i (get_or b k e) (get_or d k e)) {x = base + 1 + k} (omega arith) (rest.each k e (omega arith))

  pub only : (base : ℕ) (xs ys : List T) (x y : T) → xs ≡ x ∷ [] → ys ≡ y ∷ [] → R base x y → ChangesFrom R base xs ys
  only base xs ys x y is js r = subst (λ (z : List T × List T). ChangesFrom R base z.0 z.1) {x = (x ∷ [], y ∷ [])} (λ i. (sym is i, sym js i)) record { each = at }
    where
      at : (k : ℕ) (e : T) → k < 1 → R (base + k) (get_or (x ∷ []) k e) (get_or (y ∷ []) k e)
      at zero e lt = subst (λ (i : ℕ). R i x y) (omega arith) r
      at (suc k) e lt = absurd (omega arith)

pub single : {T : Type 0} (xs : List T) → length xs ≡ 1 → (x : T) → x ≡ get_or xs 0 x → xs ≡ x ∷ []
single [] one x is = absurd (omega arith)
single (y ∷ []) one x is = ap (λ z. z ∷ []) (sym is)
single (y ∷ z ∷ zs) one x is = absurd (omega arith)

pub single_set : {T : Type 0} (xs : List T) → length xs ≡ 1 → (y : T) → set xs 0 y ≡ y ∷ []
single_set [] one y = absurd (omega arith)
single_set (x ∷ []) one y = refl
single_set (x ∷ z ∷ zs) one y = absurd (omega arith)
