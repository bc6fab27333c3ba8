-- Weights of numbers, added up over lists. Two lists have the same numbers, each as often, if they weigh the same whatever each number weighs.
use Rattle.std.specs.Prelude.{ℕ, zero, suc, ◌+◌, List, [], ◌∷◌}

-- the weights of the numbers in a list, added up
abbrev pub weigh : (ℕ → ℕ) → List ℕ → ℕ
weigh h [] = 0
weigh h (x ∷ xs) = h x + weigh h xs

-- the weights of the numbers in several lists, added up
abbrev pub weigh_lists : (ℕ → ℕ) → List (List ℕ) → ℕ
weigh_lists h [] = 0
weigh_lists h (l ∷ ls) = weigh h l + weigh_lists h ls

-- the weights of the numbers below n
abbrev pub weigh_below : (ℕ → ℕ) → ℕ → ℕ
weigh_below h zero = 0
weigh_below h (suc n) = h n + weigh_below h n

-- what a function gives of each element of a list, added up
abbrev pub total : {A : Type 0} → (A → ℕ) → List A → ℕ
total f [] = 0
total f (v ∷ vs) = f v + total f vs
