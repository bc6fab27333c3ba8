-- What an event leaves of a machine that has forgotten the beginning of its trace.
use Rattle.std.proofs.Common.{◌≡◌, ℕ, ◌==◌, Bool, true, false, if◌then◌else◌, [], refl, sym, ap, subst, arith, append_assoc}
use Rattle.std.proofs.lemmas.List.{append-nil}
use Rattle.mh_model.specs.{declared.command.Command.Command, declared.command.Control.Control}
use Rattle.mh_model.specs.{declared.command.Event.Event, declared.reply.Reply.Reply}
use Rattle.mh_model.specs.Machine.{Machine, is_quantum_due, quantum_run, with_due_quantum, command_step, control_step, half_step, event_step}
use Rattle.mh_model.specs.{Trace.{TraceState, with_mutator, with_spent}, World.says}
use Rattle.mh_run_laws.specs.Forgetting.{IsEndOf, Recalls, forgotten, is_report}
use Rattle.mh_run_laws.specs.ForgettingLaws.{EventsKeepWhatIsRecalled}

-- Ends -------------------------------------------------------------------------------------------

-- what one trace gains, its end gains too
end-mutator : (whole end : TraceState) (units : ℕ) → IsEndOf whole end → IsEndOf (with_mutator whole units) (with_mutator end units)
end-mutator whole end units is = grind (arith, append_assoc)

end-spent : (whole end : TraceState) (units : ℕ) → IsEndOf whole end → IsEndOf (with_spent whole units) (with_spent end units)
end-spent whole end units is = grind (arith, append_assoc)

-- One whose trace is another end -----------------------------------------------------------------

module _ (whole : Machine) (end : TraceState) (is : IsEndOf whole.trace end) where
  command-end : (who : ℕ) (command : Command) → Recalls (command_step whole who command).state (command_step (record whole { trace = end }) who command).state
  unfolding command_step
  command-end who command = record { same = refl; trace = end-mutator whole.trace end _ is }

  quantum-end : Recalls (quantum_run whole).state (quantum_run (record whole { trace = end })).state
  unfolding quantum_run
  quantum-end = record { same = refl; trace = end-spent whole.trace end _ is }

  due-end : Recalls (with_due_quantum whole) (with_due_quantum (record whole { trace = end }))
  due-end = go (is_quantum_due whole)
    where
      go : (due : Bool) → Recalls (if due then (quantum_run whole).state else whole) (if due then (quantum_run (record whole { trace = end })).state else record whole { trace = end })
      go true = quantum-end
      go false = record { same = refl; trace = is }

  control-end : (control : Control) → Recalls (control_step whole control).state (control_step (record whole { trace = end }) control).state
  unfolding control_step
  control-end Control.Quantum = go (whole.heap.config.every == 0)
    where
      go : (none : Bool) → Recalls (if none then quantum_run whole else says (Reply.Spent 0 whole.heap.collector.phase) whole).state
          (if none then quantum_run (record whole { trace = end }) else says (Reply.Spent 0 whole.heap.collector.phase) (record whole { trace = end })).state
      go true = quantum-end
      go false = record { same = refl; trace = is }
  control-end asked = record { same = refl; trace = is }

  -- and what it answers
  command-answers : (who : ℕ) (command : Command) → (command_step (record whole { trace = end }) who command).reply ≡ (command_step whole who command).reply
  unfolding command_step
  command-answers who command = refl

  quantum-answers : (quantum_run (record whole { trace = end })).reply ≡ (quantum_run whole).reply
  unfolding quantum_run
  quantum-answers = refl

  control-answers : (control : Control) → is_report (Event.Control control) ≡ false → (control_step (record whole { trace = end }) control).reply ≡ (control_step whole control).reply
  unfolding control_step
  control-answers Control.Quantum none = go (whole.heap.config.every == 0)
    where
      go : (by_hand : Bool) → (if by_hand then quantum_run (record whole { trace = end }) else says (Reply.Spent 0 whole.heap.collector.phase) (record whole { trace = end })).reply
          ≡ (if by_hand then quantum_run whole else says (Reply.Spent 0 whole.heap.collector.phase) whole).reply
      go true = quantum-answers
      go false = refl
  control-answers (Control.Report window) none = cc
  control-answers other none = refl

-- Any two, of which one recalls the other --------------------------------------------------------

module _ (whole machine : Machine) (is : Recalls whole machine) where
  due-recalls : Recalls (with_due_quantum whole) (with_due_quantum machine)
  due-recalls = subst (λ (m : Machine). Recalls (with_due_quantum whole) (with_due_quantum m)) (sym is.same) (due-end whole machine.trace is.trace)

  command-recalls : (who : ℕ) (command : Command) → Recalls (command_step whole who command).state (command_step machine who command).state
  command-recalls who command = subst (λ (m : Machine). Recalls (command_step whole who command).state (command_step m who command).state) (sym is.same) (command-end whole machine.trace is.trace who command)

  control-recalls : (control : Control) → Recalls (control_step whole control).state (control_step machine control).state
  control-recalls control = subst (λ (m : Machine). Recalls (control_step whole control).state (control_step m control).state) (sym is.same) (control-end whole machine.trace is.trace control)

  forgotten-recalls : Recalls whole (forgotten machine)
  forgotten-recalls = record {
    same = ap forgotten is.same;
    trace = record { before = whole.trace.letters; letters = sym (append-nil whole.trace.letters); quanta = omega arith; greatest = omega arith };
  }

itself : (machine : Machine) → Recalls machine machine
itself machine = record { same = refl; trace = record { before = []; letters = refl; quanta = omega arith; greatest = omega arith } }

state-recalls : (whole machine : Machine) (event : Event) → Recalls whole machine → Recalls (event_step whole event).state (event_step machine event).state
unfolding event_step
state-recalls whole machine (Event.Session who command) is = due-recalls (command_step whole who command).state (command_step machine who command).state (command-recalls whole machine is who command)
state-recalls whole machine (Event.Control control) is = control-recalls whole machine is control

half-recalls : (whole machine : Machine) (event : Event) → Recalls whole machine → Recalls (half_step whole event) (half_step machine event)
half-recalls whole machine (Event.Session who command) is = command-recalls whole machine is who command
half-recalls whole machine (Event.Control control) is = is

reply-recalls : (whole machine : Machine) (event : Event) → Recalls whole machine → is_report event ≡ false → (event_step machine event).reply ≡ (event_step whole event).reply
unfolding event_step
reply-recalls whole machine (Event.Session who command) is none = grind (arith, command-answers)
reply-recalls whole machine (Event.Control control) is none = grind (arith, control-answers)

-- Events keep what is recalled
pub events_keep : EventsKeepWhatIsRecalled
events_keep = record { itself = itself; forgetting = forgotten-recalls; states = state-recalls; halves = half-recalls; replies = reply-recalls }
