-- Auxiliary definitions: what loops, private functions and the insides of types keep. No public contract depends on them.
use Rattle.std.specs.Prelude.{ℕ, Bool, true, Option, None, Some}
use Rattle.mh_orders.specs.Given.{is_between}

-- a number that is given is between these
abbrev pub may_be : ℕ → ℕ → Option ℕ → Bool
may_be least most None = true
may_be least most (Some number) = is_between least most number
