-- The events of a run whose deeds are asked for.
use Rattle.std.specs.Prelude.{ℕ, nat_le, Bool, ◌&&◌}
use Rattle.mh_orders.specs.declared.steps.Steps.{Steps}

-- the deeds of the event of this number are asked for
abbrev pub is_asked : Steps → ℕ → Bool
is_asked steps number = nat_le steps.from number && nat_le number steps.to
