-- The page of a run: the texts that draw it, and between them its numbers.
use Rattle.std.specs.Prelude.{◌≡◌, ℕ, suc, ◌+◌, ◌-◌, nat_lt, nat_le, Bool, if◌then◌else◌, Option, Some, None, List, [], ◌∷◌, ◌++◌, length, take, drop, codes, decimal}
use Rattle.mh_model.specs.{declared.command.Event.Event, declared.config.Config.Config, declared.history.Entry.Entry}
use Rattle.mh_model.specs.{declared.history.Measured.Measured, declared.reply.Reply.Reply, Bytes.{Text, joined}}
use Rattle.mh_model.specs.Deeds.{Account, Ran, account_of}
use Rattle.mh_model.specs.HistoryTexts.{event_words, rules_number, measured_step, machine_record}
use Rattle.mh_model.specs.{Machine.{Machine, first_machine, event_step, machine_after}, Replies.reply_text}
use Rattle.mh_model.specs.Numbered.{phase_number}
use Rattle.mh_script.specs.Lines.{Told, lines_from}
use Rattle.mh_window_curve.specs.{declared.point.CurvePoint.CurvePoint, Histories.letters_of_entries, Points.points_of}
use Rattle.mh_orders.specs.declared.range.RangeOptions.{RangeOptions}
use Rattle.mh_tell_steps.specs.{Lines.quoted, Steps.AreInTurn}
use Rattle.mh_text.specs.Names.{names_in}
use Rattle.mh_tell_show.specs.{declared.page.TheConstants.HEAD, declared.drawing.TheConstants.DRAWING}
use Rattle.mh_tell_show.specs.{declared.controls.TheConstants.CONTROLS, Before.before_text}
use Rattle.mh_tell_show.specs.Rows.{PageRow, row_of, row_text, listed, deed_rows_text, root_rows}

-- Past so many deeds only those are written that are kept of a long run
abbrev pub most_deeds : ℕ
most_deeds = 200000

-- how many deeds a quantum has, if one was run
abbrev pub ran_deeds : Option Ran → ℕ
ran_deeds None = 0
ran_deeds (Some ran) = length ran.deeds

-- how many deeds an account has
abbrev pub deed_count : Account → ℕ
deed_count account = length account.command + ran_deeds account.quantum

-- Events -----------------------------------------------------------------------------------------

-- `[SPENT,PHASE,DEEDS]`, or 0 if no quantum was run
abbrev pub ran_text : Bool → Option Ran → Text
ran_text is_whole None = codes "0"
ran_text is_whole (Some ran) = 91 ∷ (decimal ran.ended.units ++ 44 ∷ (decimal (phase_number ran.ended.phase) ++ 44 ∷ (deed_rows_text is_whole ran.deeds ++ codes "]")))

-- what an event is written of: its reply and its units, what it did, and the roots before and after it
pub record Shown : Type 0 where
  pub measured : Measured
  pub account : Account
  pub before : List (Option ℕ)
  pub after : List (Option ℕ)

-- `["EVENT","REPLY",UNITS,WHOLE,DEEDS,ROOTS,QUANTUM]`, with all deeds or those alone that are kept of a long run. No text here has a quotation mark or a backslash
abbrev pub shown_text : Bool → Shown → Text
shown_text is_whole shown =
    codes "[\"" ++ (joined (event_words shown.measured.entry.event) ++ (codes "\",\"" ++ (reply_text shown.measured.entry.reply ++ (codes "\"," ++ (decimal shown.measured.mutator ++ (codes (if is_whole then ",1," else ",0,")
    ++ (deed_rows_text is_whole shown.account.command ++ 44 ∷ (listed row_text (root_rows 0 shown.before shown.after) ++ 44 ∷ (ran_text is_whole shown.account.quantum ++ codes "]")))))))))

-- what an event of the machine is written of
abbrev pub shown_of : Machine → Event → Shown
shown_of machine event =
    let answer = event_step machine event in
    record {
      measured = measured_step machine event answer;
      account = account_of machine event;
      before = machine.heap.collector.slots;
      after = answer.state.heap.collector.slots;
    }

-- the line of an event of a machine after so many deeds
abbrev pub event_line : ℕ → Machine → Event → Text
event_line count machine event = shown_text (nat_lt count most_deeds) (shown_of machine event) ++ codes ",\n"

-- a machine, and how many deeds were written before its next event
pub record Stage : Type 0 where
  pub machine : Machine
  pub count : ℕ

abbrev pub stage : Machine → ℕ → Stage
stage machine count = record { machine = machine; count = count }

-- What each event adds
abbrev pub events_told : Told Stage Event
events_told = record {
  next = λ at event. stage (event_step at.machine event).state (at.count + deed_count (account_of at.machine event));
  line = λ at event. event_line at.count at.machine event;
  last = λ at. [];
}

-- The events of a machine after so many deeds, each on a line
abbrev pub shown_events_text : ℕ → Machine → List Event → Text
shown_events_text count machine events = lines_from events_told (stage machine count) events

-- The events, from the first on, whose lines fit together into so many bytes
unfoldable pub fitting : ℕ → ℕ → Machine → List Event → List Event
fitting room count machine [] = []
fitting room count machine (event ∷ events) =
    let line = length (event_line count machine event) in
    if nat_le line room then event ∷ fitting (room - line) (count + deed_count (account_of machine event)) (event_step machine event).state events else []

-- Runs -------------------------------------------------------------------------------------------

-- the rules and the numbers of a configuration
abbrev pub config_row : Config → PageRow
config_row config = row_of (rules_number config.rules) (Some config.pages ∷ Some config.quantum ∷ Some config.trigger ∷ Some config.every ∷ [])

-- a window of the curve, with its least and its floor
abbrev pub point_row : CurvePoint → PageRow
point_row point = row_of point.window (Some point.least ∷ point.floor ∷ [])

-- The names of a script's sessions, with which the object of JSON begins that is the run
abbrev pub names_part : List Text → Text
names_part names = codes "{\"names\":" ++ (listed quoted names ++ codes ",")

-- how many bytes the numbers have at most, up to the end of their events, unless no event is shown
abbrev pub most_bytes : ℕ
most_bytes = 19500000

-- the events before the first that is asked for, and those that are asked for
abbrev pub events_before : RangeOptions → List Event → List Event
events_before options events = take (options.from - 1) events

abbrev pub events_asked : RangeOptions → List Event → List Event
events_asked options events = drop (options.from - 1) (take options.to events)

-- the numbers before the events of a page: the configuration, how many events the script has, and what was there before the first of the page
abbrev pub front_text : Config → ℕ → ℕ → Machine → Text
front_text config all number machine = codes "\"config\":" ++ (row_text (config_row config) ++ (codes ",\"all\":" ++ (decimal all ++ (before_text number machine ++ codes ",\"events\":[\n"))))

-- the numbers after them: the curve of the units of these events
abbrev pub rest_text : Config → List Measured → Text
rest_text config entries = codes "0],\"curve\":" ++ (listed (λ point. row_text (point_row point)) (points_of config (letters_of_entries entries)) ++ codes "}\n")

-- what a page has of these events: as many of them as fit
abbrev pub shown_from : Text → Machine → List Event → List Event
shown_from front machine events = fitting (most_bytes - length front) 0 machine events

-- the numbers of a run of which these events are asked for, from a machine on
abbrev pub part_text : Config → Text → Machine → List Event → Text
part_text config front machine asked =
    let shown = shown_from front machine asked in
    front ++ (shown_events_text 0 machine shown ++ rest_text config (machine_record machine shown))

-- The numbers of a run, with which the object ends
abbrev pub run_text : RangeOptions → Config → List Event → Text
run_text options config events =
    let before = events_before options events in
    let machine = machine_after (first_machine config) before in
    part_text config (front_text config (length events) (length before) machine) machine (events_asked options events)

-- the run as an object of JSON: its names and its numbers
abbrev pub object_text : RangeOptions → Text → Config → List Event → Text
object_text options script config events = names_part (names_in script) ++ run_text options config events

-- The page of these events of a run, which are those of this script
abbrev pub page_text : RangeOptions → Text → Config → List Event → Text
page_text options script config events = HEAD.now ++ (object_text options script config events ++ (DRAWING.now ++ CONTROLS.now))

-- Replies that are shown -------------------------------------------------------------------------

-- the entry of an event was written on a line
pub record IsShown (entry : Entry) (line : Text) : Type 0 where
  pub is_whole : Bool
  pub shown : Shown
  pub entry_is : shown.measured.entry ≡ entry
  pub is : line ≡ shown_text is_whole shown ++ codes ",\n"

-- A page shows these replies to these events: to so many in turn, from the first that is asked for on
pub record ShowsReplies (options : RangeOptions) (config : Config) (events : List Event) (replies : List Reply) (page : Text) : Type 0 where
  pub script : Text
  pub machine : Machine
  pub count : ℕ
  pub lines : Text
  pub entries : List Measured
  pub each : AreInTurn (λ _. IsShown) (suc (options.from - 1)) (take count (events_asked options events)) (take count (drop (options.from - 1) (take options.to replies))) lines
  pub is : page ≡ HEAD.now ++ ((names_part (names_in script) ++ (front_text config (length events) (length (events_before options events)) machine ++ (lines ++ rest_text config entries))) ++ (DRAWING.now ++ CONTROLS.now))
