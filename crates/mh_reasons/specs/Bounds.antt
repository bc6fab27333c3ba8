-- Bounds of numbers.
use Rattle.std.specs.Prelude.{ℕ, suc, List, map}

-- the bounds of numbers that are at most these
abbrev pub bounds_above : List ℕ → List ℕ
bounds_above greatest = map (λ most. suc most) greatest
