-- The laws of machines that have forgotten the beginning of their trace.
use Rattle.std.specs.Prelude.{◌≡◌, ℕ, false, List}
use Rattle.mh_model.specs.{declared.command.Event.Event, declared.config.Config.Config}
use Rattle.mh_model.specs.Machine.{Machine, report_on, first_machine, half_step, event_step, machine_after}
use Rattle.mh_run_laws.specs.Forgetting.{KeepsPromise, Recalls, forgotten, is_report}

-- A machine recalls itself, and what it recalls it recalls still once it forgets its trace, after each event, and at the half step of each. To an event that asks for no report it answers the same
pub record EventsKeepWhatIsRecalled : Type 0 where
  pub itself : (machine : Machine) → Recalls machine machine
  pub forgetting : (whole machine : Machine) → Recalls whole machine → Recalls whole (forgotten machine)
  pub states : (whole machine : Machine) (event : Event) → Recalls whole machine → Recalls (event_step whole event).state (event_step machine event).state
  pub halves : (whole machine : Machine) (event : Event) → Recalls whole machine → Recalls (half_step whole event) (half_step machine event)
  pub replies : (whole machine : Machine) (event : Event) → Recalls whole machine → is_report event ≡ false → (event_step machine event).reply ≡ (event_step whole event).reply

-- A machine that recalls a run has it that each report of its trace keeps the promise of the configuration
abbrev pub ForgottenTracesKeepTheirPromise : Type 0
ForgottenTracesKeepTheirPromise = (config : Config) (events : List Event) (machine : Machine) (window : ℕ) → Recalls (machine_after (first_machine config) events) machine → KeepsPromise config (report_on config machine.trace window)
