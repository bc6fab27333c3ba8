-- Each letter of a trace is the mutator's or the collector's.
use Rattle.std.proofs.Common.{◌≡◌, ◌+◌, List, [], ◌∷◌, length, refl, arith}
use Rattle.mh_model.specs.Trace.{Letter, M, C, mutator_count, collector_count}

pub letters_counted : (letters : List Letter) → mutator_count letters + collector_count letters ≡ length letters
letters_counted [] = refl
letters_counted (M ∷ letters) = let h = letters_counted letters in omega (arith, h)
letters_counted (C ∷ letters) = let h = letters_counted letters in omega (arith, h)
