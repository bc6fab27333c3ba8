-- What is given of a configuration, within its limits.
use Rattle.std.specs.Prelude.{ℕ, nat_le, Bool, true, ◌&&◌}
use Rattle.mh_orders.specs.declared.{generate_options.Controls.Controls, room_options.CycleLength.CycleLength}
use Rattle.mh_orders.specs.declared.target_options.Given.{Given}
use Rattle.mh_orders.specs.declared.target_options.Given.TheVariants.{Every, Nothing, Quantum}
use Rattle.mh_model.specs.Limits.{least_quantum}

-- a number is no less than one and no more than another
abbrev pub is_between : ℕ → ℕ → ℕ → Bool
is_between least most number = nat_le least number && nat_le number most

-- what is given beside a target is within its limits
abbrev pub is_given_within : Given → Bool
is_given_within Nothing = true
is_given_within (Every every) = is_between 1 1000000 every
is_given_within (Quantum quantum) = is_between least_quantum 1000000 quantum

-- the length that is given for cycles is within its limits
abbrev pub is_length_within : CycleLength → Bool
is_length_within (CycleLength.Quanta quanta) = is_between 1 1000000 quanta
is_length_within (CycleLength.Quantum quantum) = is_between least_quantum 1000000 quantum

-- the number of events after which a script asks for a quantum is within its limits
abbrev pub is_controls_within : Controls → Bool
is_controls_within Controls.ByChance = true
is_controls_within (Controls.Each events) = is_between 1 1000000 events
is_controls_within Controls.Never = true
