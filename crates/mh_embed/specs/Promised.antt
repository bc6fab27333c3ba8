-- What calls on a machine promise, from its opening on: the replies that they gave are those of an outcome that keeps the promise, also if the trace was
-- forgotten between them.
use Rattle.std.specs.Prelude.{◌≡◌, ℕ, Bool, Some, List, [], ◌∷◌, ◌++◌, length}
use Rattle.mh_model.specs.{declared.command.Event.Event, declared.config.Config.Config, declared.reply.Reply.Reply}
use Rattle.mh_model.specs.{Machine.{Machine, event_step, first_machine, machine_after, report_on}, Trace.TraceState}
use Rattle.mh_model.specs.declared.command.Control.{Control}
use Rattle.mh_promise.specs.Promise.{ArePromised}
use Rattle.mh_run_laws.specs.Forgetting.{IsEndOf, KeepsPromise, Recalls}
use Rattle.mh_embed.specs.{declared.driver.Driver.TheVariants.Collects, declared.status.Status.Status}
use Rattle.mh_embed.specs.{Drivers.Collected, Driving.{Driven, Takes}, Endings.{ForgetEnds, ReserveEnds, TellEnds}}

-- One call did this event and gave it this reply, or it did none. Then it asked for deeds or for room, or had the trace forgotten, or left what is
-- driven as it was
pub data IsCall (old new : Driven) : List Event → List Reply → Type 0 where
  Does : (event : Event) (given : Reply) → Takes old.driver event given new.driver → new.reply ≡ Some given → IsCall old new (event ∷ []) (given ∷ [])
  Tells : (tells : Bool) (ends : Status) → TellEnds old tells new ends → IsCall old new [] []
  Reserves : (room : ℕ) (ends : Status) → ReserveEnds old room new ends → IsCall old new [] []
  Forgets : (ends : Status) → ForgetEnds old new ends → IsCall old new [] []
  Leaves : new ≡ old → IsCall old new [] []

-- one call, whatever it did
abbrev pub IsOneCall : Driven → Driven → Type 0
IsOneCall old new = (events : List Event) × (replies : List Reply) × IsCall old new events replies

-- calls in turn on what was opened did these events and gave them these replies, and this is driven then
pub data AreCalls (first : Driven) : List Event → List Reply → Driven → Type 0 where
  Opened : AreCalls first [] [] first
  Called : (events : List Event) (replies : List Reply) (more : List Event) (given : List Reply) (old new : Driven) → AreCalls first events replies old → IsCall old new more given → AreCalls first (events ++ more) (replies ++ given) new

-- replies to events that are a machine's, but that a report may be of an end of its trace; then too it keeps the promise of the configuration
pub data AreRecalled (config : Config) : Machine → List Event → List Reply → Type 0 where
  NoneYet : (machine : Machine) → AreRecalled config machine [] []
  Same : (machine : Machine) (event : Event) (events : List Event) (replies : List Reply) → AreRecalled config (event_step machine event).state events replies
      → AreRecalled config machine (event ∷ events) ((event_step machine event).reply ∷ replies)
  Reported : (machine : Machine) (window : ℕ) (end : TraceState) (events : List Event) (replies : List Reply) → IsEndOf machine.trace end → KeepsPromise config (report_on config end window)
      → AreRecalled config (event_step machine (Event.Control (Control.Report window))).state events replies
      → AreRecalled config machine (Event.Control (Control.Report window) ∷ events) (Reply.Report (report_on config end window) ∷ replies)

-- Events were done and given replies, and this is driven after them. It is the machine after these events, but that it may have forgotten how its trace
-- begins, so its heap is that machine's. The replies are the machine's, but for reports, and those of an outcome that keeps the promise
pub record IsDrivenAsPromised (config : Config) (events : List Event) (replies : List Reply) (driven : Driven) : Type 0 where
  pub collected : Collected
  pub drives : driven.driver ≡ Collects collected
  pub done : collected.machine.done ≡ length events
  pub recalls : Recalls (machine_after (first_machine config) events) collected.machine.machine
  pub heap : collected.machine.machine.heap ≡ (machine_after (first_machine config) events).heap
  pub recalled : AreRecalled config (first_machine config) events replies
  pub promise : ArePromised config events replies
