-- Scripts as they are written: a configuration, and events whose sessions have their numbers as names, in the order of first use.
use Rattle.std.specs.Prelude.{ℕ, nat_lt, Bool, true}
use Rattle.mh_model.specs.declared.command.Event.{Event}

-- Sessions ---------------------------------------------------------------------------------------

-- the event is no command, or one of a session below this number
abbrev pub is_below : ℕ → Event → Bool
is_below most (Event.Session who command) = nat_lt who most
is_below most (Event.Control control) = true
