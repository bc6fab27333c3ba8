-- How calls end, status by status.
use Rattle.std.specs.Prelude.{◌≡◌, ◌≢◌, ◌<◌, ◌≤◌, ℕ, Bool, true, Option, Some, None, List, ◌++◌, drop, length, slice_get}
use Rattle.mh_model.specs.{declared.command.Control.Control, declared.command.Event.Event, declared.deed.Deed.Deed}
use Rattle.mh_model.specs.{declared.dump.DumpItem.DumpItem, declared.reply.Reply.Reply, declared.report.Report.Report}
use Rattle.mh_model.specs.{Bytes.Text, Machine.{control_step, report_on}, Replies.reply_text}
use Rattle.mh_model.specs.{declared.reply.Refusal.TheVariants.HeapFull, World.{IsNew, world_step}}
use Rattle.mh_run_laws.specs.Forgetting.{KeepsPromise}
use Rattle.mh_reasons.specs.{declared.reason.LineReason.LineReason, Reasons.{IsLineReason, IsWrong}}
use Rattle.mh_reasons.specs.Texts.{line_reason_text}
use Rattle.mh_live.specs.Promised.{line_event, names_after}
use Rattle.mh_embed.specs.{declared.driver.Driver.Driver, declared.driver.Driver.TheVariants.{Collects, Grows}}
use Rattle.mh_embed.specs.{declared.numbers.DeedNumbers.DeedNumbers, declared.numbers.EventNumbers.EventNumbers}
use Rattle.mh_embed.specs.{declared.numbers.ItemNumbers.ItemNumbers, declared.numbers.ReplyNumbers.ReplyNumbers}
use Rattle.mh_embed.specs.{declared.numbers.UnitNumbers.UnitNumbers, declared.status.Status.Status}
use Rattle.mh_embed.specs.{Drivers.{Collected, Forgetting, Reserving}, Driving.{Driven, Takes, IsOfWorld, IsUndone}}
use Rattle.mh_embed.specs.Numbers.{IsDeedShownBy, IsItemShownBy, IsShownBy, event_numbered, items_of}
use Rattle.mh_model.specs.Script as script

-- Events -----------------------------------------------------------------------------------------

-- An event ends: it was done, its reply is the last, and these names have been seen; or all is as it was
pub data EventEnds (old : Driven) (event : Event) (seen : List Text) (new : Driven) : Status → Type 0 where
  Done : (given : Reply) → Takes old.driver event given new.driver → new.reply ≡ Some given → new.names ≡ seen → EventEnds old event seen new Status.Done
  Undone : (ends : Status) → IsUndone old.driver event ends → new ≡ old → EventEnds old event seen new ends

-- A line ends: as its event does, or it has none and all is as it was
pub data LineEnds (old : Driven) (line : script.Line) (new : Driven) : Status → Type 0 where
  Blank : line ≡ script.Blank → new ≡ old → LineEnds old line new Status.Blank
  Wrong : line ≡ script.Wrong → new ≡ old → LineEnds old line new Status.Wrong
  Has : (event : Event) (ends : Status) → line_event old.names line ≡ Some event → EventEnds old event (names_after old.names line) new ends → LineEnds old line new ends

-- Texts ------------------------------------------------------------------------------------------

-- A text is given to a buffer, at its start, with its length: whole, or only its length if the buffer is shorter
pub data IsGiven (text old new : Text) (written : ℕ) : Status → Type 0 where
  Whole : new ≡ text ++ drop (length text) old → written ≡ length text → IsGiven text old new written Status.Done
  Short : length old < length text → new ≡ old → written ≡ length text → IsGiven text old new written Status.Short

-- The text of the last reply is asked for. Memory may be refused for it
pub data TextEnds (reply : Option Reply) (old new : Text) (written : ℕ) : Status → Type 0 where
  Told : (given : Reply) (ends : Status) → reply ≡ Some given → IsGiven (reply_text given) old new written ends → TextEnds reply old new written ends
  NoText : new ≡ old → written ≡ 0 → TextEnds reply old new written Status.NoText
  NoReply : reply ≡ None → new ≡ old → written ≡ 0 → TextEnds reply old new written Status.NoReply

-- A line is answered by the text of its reply, which is the last one from then on. It is no text if its event isn't done
pub data AnswerEnds (old : Driven) (line : script.Line) (new : Driven) (out out' : Text) (written : ℕ) : Status → Type 0 where
  Answered : (ends : Status) → LineEnds old line new Status.Done → TextEnds new.reply out out' written ends → AnswerEnds old line new out out' written ends
  Undone : (ends : Status) → ends ≢ Status.Done → LineEnds old line new ends → out' ≡ out → written ≡ 0 → AnswerEnds old line new out out' written ends

-- What is wrong with a line is asked for: the text of a reason that is true of it, if it is outside the grammar. Memory may be refused for the text
pub data ReasonEnds (line out out' : Text) (written : ℕ) : Status → Type 0 where
  Reasoned : (reason : LineReason) (ends : Status) → IsWrong true line → IsLineReason true line reason → IsGiven (line_reason_text reason) out out' written ends → ReasonEnds line out out' written ends
  BlankLine : script.line_of line ≡ script.Blank → out' ≡ out → written ≡ 0 → ReasonEnds line out out' written Status.Blank
  IsEvent : script.line_of line ≢ script.Blank → script.line_of line ≢ script.Wrong → out' ≡ out → written ≡ 0 → ReasonEnds line out out' written Status.NoItem
  NoReason : IsWrong true line → out' ≡ out → written ≡ 0 → ReasonEnds line out out' written Status.NoText

-- Numbers ----------------------------------------------------------------------------------------

-- The last reply is asked for as numbers
pub data ReplyEnds (reply : Option Reply) (old new : ReplyNumbers) : Status → Type 0 where
  Shown : (given : Reply) → reply ≡ Some given → IsShownBy given new → ReplyEnds reply old new Status.Done
  NoneYet : reply ≡ None → new ≡ old → ReplyEnds reply old new Status.NoReply

-- An event is asked as numbers, and answered by those of its reply, which is the last one from then on
pub data StepEnds (old : Driven) (asked : EventNumbers) (new : Driven) (shown shown' : ReplyNumbers) : Status → Type 0 where
  NoEvent : event_numbered asked ≡ None → new ≡ old → shown' ≡ shown → StepEnds old asked new shown shown' Status.Wrong
  Stepped : (event : Event) (ends : Status) → event_numbered asked ≡ Some event → EventEnds old event old.names new Status.Done → ReplyEnds new.reply shown shown' ends → StepEnds old asked new shown shown' ends
  NotStepped : (event : Event) (ends : Status) → event_numbered asked ≡ Some event → ends ≢ Status.Done → EventEnds old event old.names new ends → shown' ≡ shown → StepEnds old asked new shown shown' ends

-- An item of the last reply is asked for, counted from 0. A reply that isn't a dump has none
pub data ItemEnds (reply : Option Reply) (index : ℕ) (old new : ItemNumbers) : Status → Type 0 where
  Found : (found : DumpItem) → slice_get (items_of reply) index ≡ Some found → IsItemShownBy found new → ItemEnds reply index old new Status.Done
  NoItem : length (items_of reply) ≤ index → new ≡ old → ItemEnds reply index old new Status.NoItem

-- What the last event added to the trace is asked for, which a world has not
pub data UnitsEnd (driven : Driven) (old new : UnitNumbers) : Status → Type 0 where
  Added : (collected : Collected) (given : Reply) → driven.driver ≡ Collects collected → driven.reply ≡ Some given → new ≡ collected.units → UnitsEnd driven old new Status.Done
  NoneAdded : (collected : Collected) → driven.driver ≡ Collects collected → driven.reply ≡ None → new ≡ old → UnitsEnd driven old new Status.NoReply
  NoTrace : IsOfWorld driven.driver → new ≡ old → UnitsEnd driven old new Status.IsWorld

-- Events are asked to keep their deeds, or not
pub data TellEnds (old : Driven) (tells : Bool) (new : Driven) : Status → Type 0 where
  Told : (collected : Collected) → old.driver ≡ Collects collected → new ≡ record old { driver = Collects (record collected { tells = tells }) } → TellEnds old tells new Status.Done
  NotTold : IsOfWorld old.driver → new ≡ old → TellEnds old tells new Status.IsWorld

-- A deed of the last event is asked for, counted from 0
pub data DeedEnds (driver : Driver) (index : ℕ) (old new : DeedNumbers) : Status → Type 0 where
  Found : (collected : Collected) (deeds : List Deed) (found : Deed) → driver ≡ Collects collected → collected.deeds ≡ Some deeds → slice_get deeds index ≡ Some found → IsDeedShownBy found new → DeedEnds driver index old new Status.Done
  NoDeed : (collected : Collected) (deeds : List Deed) → driver ≡ Collects collected → collected.deeds ≡ Some deeds → length deeds ≤ index → new ≡ old → DeedEnds driver index old new Status.NoItem
  NotKept : (collected : Collected) → driver ≡ Collects collected → collected.deeds ≡ None → new ≡ old → DeedEnds driver index old new Status.NoDeeds
  OfWorld : IsOfWorld driver → new ≡ old → DeedEnds driver index old new Status.NoDeeds

-- What a control would answer is asked for. It is no event, and a world has none
pub data SeeEnds (driver : Driver) (asked : Control) (old new : ReplyNumbers) : Status → Type 0 where
  Seen : (collected : Collected) → driver ≡ Collects collected → IsShownBy (control_step collected.machine.machine asked).reply new → SeeEnds driver asked old new Status.Done
  NotSeen : IsOfWorld driver → new ≡ old → SeeEnds driver asked old new Status.IsWorld

-- The report of the trace since it was last forgotten is asked for, which keeps the promise of the configuration
pub data ReportEnds (driver : Driver) (window : ℕ) (old new : ReplyNumbers) : Status → Type 0 where
  Reported : (collected : Collected) (report : Report) → driver ≡ Collects collected → report ≡ report_on collected.machine.machine.heap.config collected.machine.machine.trace window → KeepsPromise collected.machine.machine.heap.config report
      → IsShownBy (Reply.Report report) new → ReportEnds driver window old new Status.Done
  NotReported : IsOfWorld driver → new ≡ old → ReportEnds driver window old new Status.IsWorld

-- Memory -----------------------------------------------------------------------------------------

-- Room for so many events is asked for
pub data ReserveEnds (old : Driven) (events : ℕ) (new : Driven) : Status → Type 0 where
  Reserved : (was now : Collected) → old.driver ≡ Collects was → new ≡ record old { driver = Collects now } → Reserving events was now → ReserveEnds old events new Status.Done
  NoRoom : (was : Collected) → old.driver ≡ Collects was → new ≡ old → ReserveEnds old events new Status.NoMemory
  NotReserved : IsOfWorld old.driver → new ≡ old → ReserveEnds old events new Status.IsWorld

-- The trace is to be forgotten
pub data ForgetEnds (old new : Driven) : Status → Type 0 where
  Forgotten : (was now : Collected) → old.driver ≡ Collects was → new ≡ record old { driver = Collects now } → Forgetting was now → ForgetEnds old new Status.Done
  NotForgotten : IsOfWorld old.driver → new ≡ old → ForgetEnds old new Status.IsWorld

-- Judging ----------------------------------------------------------------------------------------

-- what a world passes over: a control of another collector, and a full heap for a new object that the world makes
abbrev pub PassesOver : Driver → Event → ReplyNumbers → Type 0
PassesOver (Grows grown) (Event.Session who command) given = IsNew command × IsShownBy (Reply.Refused HeapFull) given × ((world_step grown.world who command).reply ≡ Reply.Done)
PassesOver (Grows grown) (Event.Control control) given = Unit {0}
PassesOver (Collects collected) event given = ⊥

-- The reply of another collector is judged, once the event is done: these are the numbers of the right one, or they differ from it, and then it is shown
pub data JudgeEnds (old : Driven) (asked : EventNumbers) (given : ReplyNumbers) (new : Driven) (right right' : ReplyNumbers) : Status → Type 0 where
  NoEvent : event_numbered asked ≡ None → new ≡ old → right' ≡ right → JudgeEnds old asked given new right right' Status.Wrong
  Passed : (event : Event) → event_numbered asked ≡ Some event → PassesOver old.driver event given → new ≡ old → right' ≡ given → JudgeEnds old asked given new right right' Status.Done
  Right : (event : Event) (answer : Reply) → event_numbered asked ≡ Some event → ¬ PassesOver old.driver event given → EventEnds old event old.names new Status.Done → new.reply ≡ Some answer
      → IsShownBy answer given → right' ≡ given → JudgeEnds old asked given new right right' Status.Done
  Differs : (event : Event) (answer : Reply) → event_numbered asked ≡ Some event → ¬ PassesOver old.driver event given → EventEnds old event old.names new Status.Done → new.reply ≡ Some answer
      → ¬ IsShownBy answer given → IsShownBy answer right' → JudgeEnds old asked given new right right' Status.Differs
  NotJudged : (event : Event) (ends : Status) → event_numbered asked ≡ Some event → ends ≢ Status.Done → EventEnds old event old.names new ends → right' ≡ right → JudgeEnds old asked given new right right' ends
