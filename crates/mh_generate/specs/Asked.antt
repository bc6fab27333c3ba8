-- What is asked of each event of a script by its number, counted from 1.
use Rattle.std.specs.Prelude.{ℕ, suc, ◌%◌, ◌==◌, Bool, true, false, ◌&&◌, if◌then◌else◌, List, [], ◌∷◌}
use Rattle.mh_model.specs.declared.{command.Event.Event, config.Rules.Rules, config.Rules.TheVariants.{First, Second}}
use Rattle.mh_model.specs.declared.{history.Version.Version, history.Version.TheVariants.{One, Two}}
use Rattle.mh_model.specs.declared.{command.Command.Command, command.Control.Control}
use Rattle.mh_orders.specs.declared.generate_options.Controls.{Controls}
use Rattle.mh_orders.specs.declared.generate_options.Controls.TheVariants.{ByChance, Each, Never}
use Rattle.mh_orders.specs.declared.{profile.Profile.Profile, profile.Profile.TheVariants.Race}

-- a test of each event with its number, of which the first is this
abbrev pub all_numbered : (ℕ → Event → Bool) → ℕ → List Event → Bool
all_numbered test number [] = true
all_numbered test number (event ∷ events) = test number event && all_numbered test (suc number) events

abbrev pub is_command : Event → Bool
is_command (Event.Session who command) = true
is_command (Event.Control control) = false

abbrev pub is_quantum : Event → Bool
is_quantum (Event.Control Control.Quantum) = true
is_quantum _ = false

-- the event with this number is a control exactly if one is asked for there, and then a quantum
abbrev pub is_timed : Controls → ℕ → Event → Bool
is_timed ByChance number event = true
is_timed (Each events) number event = if number % events == 0 then is_quantum event else is_command event
is_timed Never number event = is_command event

-- in a race the event with this number writes that number, if it writes one. So no number is written twice
abbrev pub writes_its_number : Profile → ℕ → Event → Bool
writes_its_number Race number (Event.Session who (Command.Write slot index written)) = written == number
writes_its_number _ _ _ = true

-- the version of histories whose events the rules know
abbrev pub version_under : Rules → Version
version_under First = One
version_under Second = Two
