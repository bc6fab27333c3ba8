-- How many letters of each kind there are after more of one kind.
use Rattle.std.proofs.Common.{◌≡◌, ℕ, zero, suc, ◌+◌, List, [], ◌∷◌, ◌++◌, replicate, refl, ap, arith}
use Rattle.mh_model.specs.Trace.{Letter, M, C, mutator_count, collector_count}

pub mutator-M : (letters : List Letter) (n : ℕ) → mutator_count (letters ++ replicate n M) ≡ mutator_count letters + n
mutator-M [] zero = refl
mutator-M [] (suc n) = let h = mutator-M [] n in omega (arith, h)
mutator-M (M ∷ letters) n = let h = mutator-M letters n in omega (arith, h)
mutator-M (C ∷ letters) n = mutator-M letters n

pub collector-M : (letters : List Letter) (n : ℕ) → collector_count (letters ++ replicate n M) ≡ collector_count letters
collector-M [] zero = refl
collector-M [] (suc n) = collector-M [] n
collector-M (M ∷ letters) n = collector-M letters n
collector-M (C ∷ letters) n = ap suc (collector-M letters n)

pub mutator-C : (letters : List Letter) (n : ℕ) → mutator_count (letters ++ replicate n C) ≡ mutator_count letters
mutator-C [] zero = refl
mutator-C [] (suc n) = mutator-C [] n
mutator-C (M ∷ letters) n = ap suc (mutator-C letters n)
mutator-C (C ∷ letters) n = mutator-C letters n

pub collector-C : (letters : List Letter) (n : ℕ) → collector_count (letters ++ replicate n C) ≡ collector_count letters + n
collector-C [] zero = refl
collector-C [] (suc n) = let h = collector-C [] n in omega (arith, h)
collector-C (M ∷ letters) n = collector-C letters n
collector-C (C ∷ letters) n = let h = collector-C letters n in omega (arith, h)
