-- Lists: what is read after a write, and what holds of elements that are found.
use Rattle.std.proofs.Common.{◌≡◌, ℕ, suc, ◌==◌, ◌<◌, ◌⊎◌, Bool, true, ◌||◌, cond, List, [], ◌∷◌, length, get_or, set, replicate, Option, Some, None, IsSome, is_some, find, refl, ap, arith}
use Rattle.std.proofs.{lemmas.Bool.{and_parts, false≢true}, lemmas.Option.none-some}
use Rattle.std.specs.List.{list_all, list_any}

pub from_some : {X : Type 0} (o : Option X) → IsSome o → (x : X) × (o ≡ Some x)
from_some o is = grind arith

pub to_some : {X : Type 0} (o : Option X) (x : X) → o ≡ Some x → IsSome o
to_some o x e = ap is_some e

-- what is there is within the list
pub below_length : {X : Type 0} (xs : List (Option X)) (i : ℕ) (x : X) → get_or xs i None ≡ Some x → i < length xs
below_length (y ∷ xs) (suc i) x e = omega (arith, below_length xs i x e)
below_length xs i x e = grind (arith, none-some)

pub there_below : {X : Type 0} (xs : List (Option X)) (i : ℕ) → IsSome (get_or xs i None) → i < length xs
there_below (y ∷ xs) (suc i) there = omega (arith, there_below xs i there)
there_below xs i there = grind (arith, false≢true)

-- what is read after a write is what was written or what was there
pub get_or-set_either : {X : Type 0} (xs : List X) (i j : ℕ) (y d x : X) → get_or (set xs i y) j d ≡ x → (y ≡ x) ⊎ (get_or xs j d ≡ x)
get_or-set_either (z ∷ xs) (suc i) (suc j) y d x e = get_or-set_either xs i j y d x e
get_or-set_either xs i j y d x e = grind arith

pub set_back : {X : Type 0} (xs : List (Option X)) (i : ℕ) (x : Option X) → get_or xs i None ≡ None → set (set xs i x) i None ≡ xs
set_back (y ∷ xs) (suc i) x e = ap (λ zs. y ∷ zs) (set_back xs i x e)
set_back xs i x e = grind arith

pub none_at : {X : Type 0} (count i : ℕ) → get_or {A = Option X} (replicate count None) i None ≡ None
none_at (suc count) (suc i) = none_at count i
none_at count i = refl

-- what holds of all holds of what is found
pub find-passes : {X : Type 0} (test also : X → Bool) (xs : List X) (x : X) → list_all also xs ≡ true → find test xs ≡ Some x → also x ≡ true
find-passes test also [] x all e = absurd (none-some x e)
find-passes test also (y ∷ xs) x all e =
    let (here, after) = and_parts (also y) (list_all also xs) all in
    go (test y) e here (λ h. find-passes test also xs x after h)
  where
    go : (b : Bool) → cond b (Some y) (find test xs) ≡ Some x → also y ≡ true → (find test xs ≡ Some x → also x ≡ true) → also x ≡ true
    go b h here ih = grind arith

-- and of each number among them
pub member-passes : (test : ℕ → Bool) (n : ℕ) (ns : List ℕ) → list_all test ns ≡ true → list_any (λ m. m == n) ns ≡ true → test n ≡ true
member-passes test n [] all any = absurd (false≢true any)
member-passes test n (m ∷ ns) all any =
    let (here, after) = and_parts (test m) (list_all test ns) all in
    go (m == n) refl any here (λ h. member-passes test n ns after h)
  where
    go : (b : Bool) → (m == n) ≡ b → (b || list_any (λ k. k == n) ns) ≡ true → test m ≡ true → (list_any (λ k. k == n) ns ≡ true → test n ≡ true) → test n ≡ true
    go b is h here ih = grind arith
