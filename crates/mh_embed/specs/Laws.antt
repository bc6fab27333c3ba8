-- What is answered behind a handle, beside what a run line by line answers.
use Rattle.std.specs.Prelude.{◌≡◌, ◌<◌, ℕ, suc, Bool, true, false, Some, List}
use Rattle.mh_model.specs.{declared.command.Event.Event, declared.config.Config.Config, declared.reply.Reply.Reply}
use Rattle.mh_model.specs.{Bytes.Text, Forms.{Phrase, command_phrase, control_phrase, is_sayable}}
use Rattle.mh_model.specs.{Live.{Live, Runs, answers_line, turn}, Replies.reply_text, Script.{Line, line_of}}
use Rattle.mh_machine.specs.Reserved.{is_dump}
use Rattle.mh_embed.specs.{declared.driver.Driver.Driver, declared.driver.Driver.TheVariants.{Collects, Grows}}
use Rattle.mh_embed.specs.{declared.numbers.EventNumbers.EventNumbers, declared.numbers.ReplyNumbers.ReplyNumbers}
use Rattle.mh_embed.specs.{declared.status.Status.Status, Drivers.{Collected, Forgetting, Reserving}}
use Rattle.mh_embed.specs.Driving.{Driven, IsUndone, Takes, first_driven}
use Rattle.mh_embed.specs.Endings.{AnswerEnds, ForgetEnds, JudgeEnds, LineEnds, ReserveEnds, StepEnds, TellEnds}
use Rattle.mh_embed.specs.{Numbers.event_numbered, Promised.{AreCalls, IsDrivenAsPromised, IsOneCall}}
use Rattle.mh_model.specs.Live as model

-- the state of a run line by line that drives this machine or world, between two lines, when these names were seen
abbrev pub live_with : List Text → Driver → Live
live_with names (Collects collected) = Runs collected.machine.machine names collected.machine.done
live_with names (Grows grown) = model.Grows grown.world names grown.done

-- A line whose event is done gets the text of its reply from a run line by line too, which then stands as here
abbrev pub LinesAreTurns : Type 0
LinesAreTurns = (number : ℕ) (line : Text) (old new : Driven) (given : Reply) → LineEnds old (line_of line) new Status.Done → new.reply ≡ Some given
    → turn number (live_with old.names old.driver) line ≡ answers_line (reply_text given) (live_with new.names new.driver)

-- how an event is written, but for the name of its session
abbrev pub event_phrase : Event → Phrase
event_phrase (Event.Session who command) = command_phrase command
event_phrase (Event.Control control) = control_phrase control

-- the session of an event is a number of 8 bits, as every session is
abbrev pub HasSession : Event → Type 0
HasSession (Event.Session who command) = who < 256
HasSession (Event.Control control) = Unit {0}

-- Each event whose numbers are in the range of their types can be asked as numbers
abbrev pub EventsHaveNumbers : Type 0
EventsHaveNumbers = (asked : Event) → HasSession asked → is_sayable (event_phrase asked) ≡ true → (n : EventNumbers) × (event_numbered n ≡ Some asked)

-- events were done, traces forgotten and the keeping of deeds asked for or not in turn, and so many events were done since the first of these moments or the last forgetting
pub data Since (first : Driver) : ℕ → Driver → Type 0 where
  AtFirst : Since first 0 first
  Done : (count : ℕ) (old new : Driver) (event : Event) (given : Reply) → Since first count old → Takes old event given new → Since first (suc count) new
  Forgotten : (count : ℕ) (was now : Collected) → Since first count (Collects was) → Forgetting was now → Since first 0 (Collects now)
  Telling : (count : ℕ) (was : Collected) (tells : Bool) → Since first count (Collects was) → Since first count (Collects (record was { tells = tells }))

-- Once there is room for some events, memory is refused to none of the next so many, unless it is a dump; and so to none of so many after each time that the trace is forgotten
abbrev pub ReservedEventsAreNotRefusedMemory : Type 0
ReservedEventsAreNotRefusedMemory = (events : ℕ) (before first : Collected) (new : Driver) (count : ℕ) (event : Event) → Reserving events before first → Since (Collects first) count new → count < events → is_dump event ≡ false → ¬ IsUndone new event Status.NoMemory

-- However a call of the library ends that may change what is driven, it is one call
pub record EndsAreCalls : Type 0 where
  pub answer : (old new : Driven) (line : Line) (out out' : Text) (written : ℕ) (ends : Status) → AnswerEnds old line new out out' written ends → IsOneCall old new
  pub step : (old new : Driven) (asked : EventNumbers) (shown shown' : ReplyNumbers) (ends : Status) → StepEnds old asked new shown shown' ends → IsOneCall old new
  pub judge : (old new : Driven) (asked : EventNumbers) (given right right' : ReplyNumbers) (ends : Status) → JudgeEnds old asked given new right right' ends → IsOneCall old new
  pub tell : (old new : Driven) (tells : Bool) (ends : Status) → TellEnds old tells new ends → IsOneCall old new
  pub reserve : (old new : Driven) (events : ℕ) (ends : Status) → ReserveEnds old events new ends → IsOneCall old new
  pub forget : (old new : Driven) (ends : Status) → ForgetEnds old new ends → IsOneCall old new

-- Any calls on the machine of a configuration drive it as promised
abbrev pub CallsKeepThePromise : Type 0
CallsKeepThePromise = (config : Config) (events : List Event) (replies : List Reply) (driven : Driven) → AreCalls (first_driven config) events replies driven → IsDrivenAsPromised config events replies driven
