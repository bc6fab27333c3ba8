-- Machines that have forgotten how their trace begins, and what their reports promise.
use Rattle.std.specs.Prelude.{◌≡◌, ◌≤◌, ℕ, Bool, true, false, Some, List, ◌++◌}
use Rattle.mh_model.specs.{declared.command.Event.Event, declared.config.Config.Config, declared.report.Report.Report}
use Rattle.mh_model.specs.{Machine.Machine, Trace.{Letter, TraceState, first_trace}, declared.command.Control.Control}

-- the machine that forgets its trace: its reports count from here, and all else is as it was
abbrev pub forgotten : Machine → Machine
forgotten machine = record machine { trace = first_trace }

-- a trace is the end of another, which has no fewer quanta and no smaller ones
pub record IsEndOf (whole end : TraceState) : Type 0 where
  pub before : List Letter
  pub letters : whole.letters ≡ before ++ end.letters
  pub quanta : end.quanta ≤ whole.quanta
  pub greatest : end.greatest ≤ whole.greatest

-- a machine is as another one, but that it may have forgotten how its trace begins
pub record Recalls (whole machine : Machine) : Type 0 where
  pub same : machine ≡ record whole { trace = machine.trace }
  pub trace : IsEndOf whole.trace machine.trace

-- the event asks for a report
abbrev pub is_report : Event → Bool
is_report (Event.Control (Control.Report window)) = true
is_report _ = false

-- A report keeps what a configuration promises: its least isn't below its floor, which there is if the scheduler runs quanta, and no quantum spent more than is configured
pub record KeepsPromise (config : Config) (report : Report) : Type 0 where
  pub least : (lowest least : ℕ) → report.floor ≡ Some lowest → report.least ≡ Some least → lowest ≤ least
  pub greatest : report.greatest ≤ config.quantum
