-- What the tests of a command let through.
use Rattle.std.specs.Prelude.{Bool, List, Result, Ok, Err, Option, Some, None}
use Rattle.mh_model.specs.{World.first_refusal, declared.reply.Refusal.Refusal}

-- the value, if there is no refusal
abbrev pub unless : {T : Type 0} → Option Refusal → T → Result T Refusal
unless None value = Ok value
unless (Some refusal) value = Err refusal

-- the value if no test holds, and else the refusal of the first that does
abbrev pub tested : {T : Type 0} → List (Bool × Refusal) → T → Result T Refusal
tested tests value = unless (first_refusal tests) value
