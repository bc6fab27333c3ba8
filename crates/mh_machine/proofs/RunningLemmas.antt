-- Machines that run: what their counts leave room for, and what an event leaves of them.
use Rattle.std.proofs.Common.{◌≡◌, ℕ, suc, ◌+◌, ◌*◌, ◌<◌, ◌≤◌, [], ◌∷◌, ◌++◌, length, refl, sym, ap, ◌∙◌, subst, arith}
use Rattle.std.proofs.{Math.Nat.mul-le-mul, lemmas.List.{length-append, length_push}}
use Rattle.mh_model.specs.{declared.command.Event.Event, declared.config.Config.Config, declared.reply.Reply.Reply}
use Rattle.mh_model.specs.{declared.report.Report.Report, Limits.most_events}
use Rattle.mh_model.specs.Machine.{Machine, report_on, first_machine, half_step, event_step, machine_after}
use Rattle.mh_model.specs.World.{says}
use Rattle.mh_run_laws.specs.Bounds.{most_letters, IsWithinItsEvents, RunsStayWithinTheirEvents}
use Rattle.mh_run_laws.specs.Forgetting.{KeepsPromise, Recalls, forgotten}
use Rattle.mh_run_laws.specs.ForgettingLaws.{EventsKeepWhatIsRecalled, ForgottenTracesKeepTheirPromise}
use Rattle.mh_run_laws.proofs.runs.RunsByEvents.{after_more}
use Rattle.mh_laws.proofs.bounds.CyclesInTime.{run-stays}
use Rattle.mh_machine.specs.{Auxiliary.{IsShort, IsRunning}, Running.Running}

-- a machine within so many events, which are few, is short
short-within : (count : ℕ) (machine : Machine) → most_letters machine.heap.config ≤ 1003661 → count ≤ 4398046511104 → IsWithinItsEvents count machine → IsShort machine
short-within count machine few small within =
    let letters : count * most_letters machine.heap.config ≤ 4398046511104 * 1003661 = mul-le-mul small few in
    record {
      births = omega (arith, within.births);
      cycles = omega (arith, within.cycles);
      quanta = omega (arith, within.quanta);
      letters = omega (arith, within.letters, letters, few);
      units = omega (arith, within.units);
    }

-- and so is one that recalls it
short-recalls : (whole machine : Machine) → Recalls whole machine → IsShort whole → IsShort machine
short-recalls whole machine is short =
    let letters : length whole.trace.letters ≡ length is.trace.before + length machine.trace.letters = ap length is.trace.letters ∙ length-append is.trace.before machine.trace.letters in
    subst IsShort (sym is.same) (record {
      births = short.births;
      cycles = short.cycles;
      quanta = omega (arith, short.quanta, is.trace.quanta);
      letters = omega (arith, short.letters, letters);
      units = short.units;
    })

-- a machine that recalls another has its configuration
recalled-config : (whole machine : Machine) → Recalls whole machine → machine.heap.config ≡ whole.heap.config
recalled-config whole machine is = ap (λ (m : Machine). m.heap.config) is.same

-- a machine that runs keeps its configuration
pub config-running : (config : Config) (running : Running) → IsRunning config running → config ≡ running.machine.heap.config
config-running config running is = sym (recalled-config (machine_after (first_machine config) is.events) running.machine is.recalls ∙ (run-stays config is.events).config_is)

module _ (law : RunsStayWithinTheirEvents) (config : Config) where
  -- no count of one that runs is close to 2 ^ 62
  pub short-running : (running : Running) → IsRunning config running → IsShort running.machine
  unfolding most_events
  short-running running is =
      let whole : Machine = machine_after (first_machine config) is.events in
      short-recalls whole running.machine is.recalls (short-within (length is.events) whole (law.few whole.heap.config) (omega (arith, is.few, is.count)) (law.after_events config is.events))

  -- one event more may be done
  pub short-half : (recall : EventsKeepWhatIsRecalled) (running : Running) (event : Event) → IsRunning config running → running.done < most_events → IsShort (half_step running.machine event)
  unfolding most_events
  short-half recall running event is more =
      let whole : Machine = machine_after (first_machine config) is.events in
      short-recalls (half_step whole event) (half_step running.machine event) (recall.halves whole running.machine event is.recalls)
      (short-within (suc (length is.events)) (half_step whole event) (law.few (half_step whole event).heap.config) (omega (arith, more, is.count)) (law.after_commands config is.events event))

module _ (recall : EventsKeepWhatIsRecalled) (config : Config) where
  -- the first machine runs
  pub first-running : (machine : Machine) (room capacity : ℕ) → machine ≡ first_machine config → IsRunning config (record { machine = machine; done = 0; room = room; capacity = capacity })
  unfolding machine_after
  first-running machine room capacity is = record { events = []; few = omega arith; count = refl; recalls = subst (Recalls (first_machine config)) (sym is) (recall.itself (first_machine config)) }

  -- it runs after an event more
  pub event-running : (old new : Running) (event : Event) (reply : Reply) → IsRunning config old → old.done < most_events → event_step old.machine event ≡ says reply new.machine → new.done ≡ suc old.done → IsRunning config new
  event-running old new event reply is more step done =
      let whole : Machine = machine_after (first_machine config) is.events in
      let after : machine_after (first_machine config) (is.events ++ event ∷ []) ≡ (event_step whole event).state = after_more.event (first_machine config) is.events event in
      let state : (event_step old.machine event).state ≡ new.machine = ap (λ a. a.state) step in
      record {
        events = is.events ++ event ∷ [];
        few = omega (arith, more, done);
        count = length_push is.events event ∙ omega (arith, is.count, done);
        recalls = subst (λ (m : Machine). Recalls m new.machine) (sym after) (subst (Recalls (event_step whole event).state) state (recall.states whole old.machine event is.recalls));
      }

  -- and once it has forgotten its trace
  pub forgotten-running : (old new : Running) → IsRunning config old → new.machine ≡ forgotten old.machine → new.done ≡ old.done → IsRunning config new
  forgotten-running old new is machine done = record {
    events = is.events;
    few = omega (arith, is.few, done);
    count = is.count ∙ sym done;
    recalls = subst (Recalls (machine_after (first_machine config) is.events)) (sym machine) (recall.forgetting (machine_after (first_machine config) is.events) old.machine is.recalls);
  }

-- a report of its trace keeps the promise of its configuration
pub report-promises : (law : ForgottenTracesKeepTheirPromise) (config : Config) (running : Running) → IsRunning config running → (window : ℕ) (report : Report) → report ≡ report_on config running.machine.trace window → KeepsPromise running.machine.heap.config report
report-promises law config running is window report same =
    rw (same, sym (config-running config running is)) (law config is.events running.machine window is.recalls)
