-- A run as trace events, and what is written of it.
use Rattle.std.specs.Prelude.{◌≡◌, ℕ, suc, ◌+◌, ◌==◌, nat_le, nat_lt, Bool, false, ◌&&◌, if◌then◌else◌, Option, Some, None, List, [], ◌∷◌, ◌++◌, length, codes}
use Rattle.std.specs.List.{list_any}
use Rattle.mh_model.specs.{declared.command.Command.Command, declared.command.Event.Event}
use Rattle.mh_model.specs.{declared.config.Config.Config, declared.cycle.Phase.Phase, declared.deed.Deed.Deed}
use Rattle.mh_model.specs.{declared.history.Entry.Entry, declared.reply.Reply.Reply, Bytes.{Text, joined}}
use Rattle.mh_model.specs.{Deeds.{Account, Ran, account_of}, Forms.{command_phrase, phrase_words}}
use Rattle.mh_model.specs.{HistoryTexts.event_words, Machine.{Machine, first_machine, event_step}, Replies.reply_text}
use Rattle.mh_orders.specs.declared.range.RangeOptions.{RangeOptions}
use Rattle.mh_tell_steps.specs.{declared.figures.HeapCounts.HeapCounts, declared.figures.EventSpan.EventSpan}
use Rattle.mh_tell_steps.specs.Fields.{Field, Number, Word, field}
use Rattle.mh_tell_steps.specs.{Figures.{counts_of, moment_of, quantum_at, spent_by}, Steps.AreInTurn}
use Rattle.mh_machine.specs.Running.{Running}
use Rattle.mh_script.specs.Lines.{Told, state_after}
use Rattle.mh_tell_chrome.specs.{declared.course.Course.Course, declared.course.Slices.Slices, declared.run.Drawn.Drawn}
use Rattle.mh_tell_chrome.specs.TraceEvents.{TraceEvent, Process, Thread, Rank, Begin, End, Instant, event_text, file_text, next_texts}
use Rattle.mh_tell_chrome.specs.Deeds.{cycles, quanta, controls, session_thread, blocks_counter, counted_all, counters, cycle_end, grey_counter, nothing_open, pages_counter, quantum_course, quantum_events}

-- the event of this number is one of those that are written with their deeds
abbrev pub is_told : RangeOptions → ℕ → Bool
is_told options number = nat_le options.from number && nat_le number options.to

-- Events -----------------------------------------------------------------------------------------

-- a thread with its name, in the order of the threads' numbers
abbrev pub thread_events : ℕ → Text → List TraceEvent
thread_events thread name = Thread thread name ∷ Rank thread ∷ []

-- the name of a session's thread, with its digit. All sessions after the first eight share one
abbrev pub session_name : ℕ → Text
session_name who = if nat_lt who 8 then codes "session " ++ (48 + who) ∷ [] else codes "later sessions"

-- how many blocks deeds of a command shade
abbrev pub shade_count : List Deed → ℕ
shade_count [] = 0
shade_count (Deed.Shade place ∷ deeds) = suc (shade_count deeds)
shade_count (_ ∷ deeds) = shade_count deeds

-- the arguments of an event: its number, its reply, and how many blocks it shaded, if it did
abbrev pub event_fields : ℕ → Reply → List Field
event_fields number reply = field (codes "event") (Number number) ∷ field (codes "reply") (Word (reply_text reply)) ∷ []

abbrev pub command_fields : ℕ → Reply → ℕ → List Field
command_fields number reply shaded = if shaded == 0 then event_fields number reply else
    field (codes "event") (Number number) ∷ field (codes "reply") (Word (reply_text reply)) ∷ field (codes "shaded") (Number shaded) ∷ []

-- a command of a session, for as long as its units last, or a control as an instant
abbrev pub command_events : EventSpan → ℕ → Command → Reply → List Deed → List TraceEvent
command_events moment who command reply deeds =
    Begin moment.at (session_thread who) (joined (phrase_words (command_phrase command))) (command_fields moment.number reply (shade_count deeds))
    ∷ End (quantum_at moment) (session_thread who) ∷ []

abbrev pub control_events : EventSpan → Event → Reply → List TraceEvent
control_events moment event reply = Instant moment.at controls (joined (event_words event)) (event_fields moment.number reply) ∷ []

-- the sessions that have a thread after an event, and the event with the name of its thread before the first on it
abbrev pub is_seen : List ℕ → ℕ → Bool
is_seen seen who = list_any (λ number. number == who) seen

abbrev pub seen_after : List ℕ → Event → List ℕ
seen_after seen (Event.Session who command) = if is_seen seen who then seen else seen ++ who ∷ []
seen_after seen (Event.Control control) = seen

abbrev pub told_events : List ℕ → EventSpan → Event → Reply → List Deed → List TraceEvent
told_events seen moment (Event.Session who command) reply deeds = (if is_seen seen who then [] else thread_events (session_thread who) (session_name who)) ++ command_events moment who command reply deeds
told_events seen moment (Event.Control control) reply deeds = control_events moment (Event.Control control) reply

-- a quantum that an event ran
abbrev pub ran_events : Bool → ℕ → Course → Option Ran → List TraceEvent
ran_events told number course None = []
ran_events told number course (Some ran) = quantum_events told number course ran

abbrev pub ran_course : Bool → Course → Option Ran → Course
ran_course told course None = course
ran_course told course (Some ran) = quantum_course told course ran

-- the course with which a quantum of an event begins, whose account this is: its command has left what its deeds count
abbrev pub begun_by : EventSpan → Slices → HeapCounts → Account → Course
begun_by moment slices shown account = record {
  time = quantum_at moment;
  left = spent_by account.quantum;
  slices = slices;
  in_step = false;
  counts = counted_all shown account.command;
  shown = shown;
}

-- Runs -------------------------------------------------------------------------------------------

-- A run as it is drawn: its machine, the number of the next event, the slices of a cycle and a phase that are open, and the sessions that have a thread
pub record Scene : Type 0 where
  pub machine : Machine
  pub number : ℕ
  pub slices : Slices
  pub seen : List ℕ

abbrev pub scene_of : Running → Drawn → Scene
scene_of running drawn = record { machine = running.machine; number = suc running.done; slices = drawn.slices; seen = drawn.seen.items }

abbrev pub first_scene : Config → Scene
first_scene config = record { machine = first_machine config; number = 1; slices = nothing_open; seen = [] }

-- the moment of the next event, its account, and the course with which its quantum begins
abbrev pub scene_moment : Scene → Event → EventSpan
scene_moment scene event = moment_of scene.number scene.machine (event_step scene.machine event).state

abbrev pub scene_course : Scene → Event → Course
scene_course scene event = begun_by (scene_moment scene event) scene.slices (counts_of scene.machine.heap.collector) (account_of scene.machine event)

-- the course after that quantum
abbrev pub scene_course_after : RangeOptions → Scene → Event → Course
scene_course_after options scene event = ran_course (is_told options scene.number) (scene_course scene event) (account_of scene.machine event).quantum

-- An event: itself if it is shown, then its quantum, and then the counters that it changed
abbrev pub scene_events : RangeOptions → Scene → Event → List TraceEvent
scene_events options scene event =
    let answer = event_step scene.machine event in
    let account = account_of scene.machine event in
    let told = is_told options scene.number in
    (if told then told_events scene.seen (scene_moment scene event) event answer.reply account.command else [])
    ++ (ran_events told scene.number (scene_course scene event) account.quantum
    ++ counters (length answer.state.trace.letters) (scene_course_after options scene event).shown (counts_of answer.state.heap.collector))

-- the scene after it
abbrev pub scene_after : RangeOptions → Scene → Event → Scene
scene_after options scene event = record {
  machine = (event_step scene.machine event).state;
  number = suc scene.number;
  slices = (scene_course_after options scene event).slices;
  seen = if is_told options scene.number then seen_after scene.seen event else scene.seen;
}

-- Events in turn
unfoldable pub scenes_events : RangeOptions → Scene → List Event → List TraceEvent
scenes_events options scene [] = []
scenes_events options scene (event ∷ events) = scene_events options scene event ++ scenes_events options (scene_after options scene event) events

-- what stands before the first event: the names of the process and of three threads, and what is in the heap
abbrev pub named_events : HeapCounts → List TraceEvent
named_events counts =
    thread_events cycles (codes "cycles")
    ++ (thread_events quanta (codes "quanta")
    ++ (thread_events controls (codes "controls")
    ++ (pages_counter 0 counts ∷ blocks_counter 0 counts ∷ grey_counter 0 counts ∷ [])))

abbrev pub head_events : Config → List TraceEvent
head_events config = Process (codes "metroheap") ∷ named_events (counts_of (first_machine config).heap.collector)

-- what stands after the last: a cycle that still runs, and its phase, end with the trace
abbrev pub open_ends : ℕ → Slices → List TraceEvent
open_ends now slices = phase_end slices.phase ++ cycle_end now slices.cycle where
  phase_end : Option Phase → List TraceEvent
  phase_end None = []
  phase_end (Some phase) = End now cycles ∷ []

abbrev pub last_events : Scene → List TraceEvent
last_events scene = open_ends (length scene.machine.trace.letters) scene.slices

-- what is written of a heap's counts before the first event, and of what is open after the last
abbrev pub head_text : HeapCounts → Text
head_text counts = codes "{\"displayTimeUnit\":\"ns\",\"traceEvents\":[\n" ++ (event_text (Process (codes "metroheap")) ++ next_texts (named_events counts))

abbrev pub last_text : ℕ → Slices → Text
last_text now slices = next_texts (open_ends now slices) ++ codes "\n]}\n"

-- What each event adds to the file, and what stands after the last
abbrev pub chrome_told : RangeOptions → Told Scene Event
chrome_told options = record {
  next = scene_after options;
  line = λ scene event. next_texts (scene_events options scene event);
  last = λ scene. last_text (length scene.machine.trace.letters) scene.slices;
}

-- the scene after events
abbrev pub scene_after_all : RangeOptions → Scene → List Event → Scene
scene_after_all options = state_after (chrome_told options)

-- The trace events of a run of these events from the first machine on
abbrev pub chrome_events : RangeOptions → Config → List Event → List TraceEvent
chrome_events options config events = head_events config ++ (scenes_events options (first_scene config) events ++ last_events (scene_after_all options (first_scene config) events))

-- What a run of a script with these events writes. The script's names of its sessions don't matter
abbrev pub chrome_text : RangeOptions → Text → Config → List Event → Text
chrome_text options script config events = file_text (chrome_events options config events)

-- Replies that are drawn -------------------------------------------------------------------------

-- the entry of the event of this number was drawn, if it is shown, and then the quantum that it ran and the counters
pub record IsDrawn (options : RangeOptions) (number : ℕ) (entry : Entry) (drawn : List TraceEvent) : Type 0 where
  pub seen : List ℕ
  pub moment : EventSpan
  pub deeds : List Deed
  pub course : Course
  pub ran : Option Ran
  pub now : ℕ
  pub shown : HeapCounts
  pub counts : HeapCounts
  pub numbered : moment.number ≡ number
  pub is : drawn ≡ (if is_told options number then told_events seen moment entry.event entry.reply deeds else []) ++ (ran_events (is_told options number) number course ran ++ counters now shown counts)

-- A file draws these replies to these events, as far as they are shown
pub record DrawsReplies (options : RangeOptions) (config : Config) (events : List Event) (replies : List Reply) (text : Text) : Type 0 where
  pub drawn : List TraceEvent
  pub now : ℕ
  pub slices : Slices
  pub each : AreInTurn (IsDrawn options) 1 events replies drawn
  pub is : text ≡ file_text (head_events config ++ (drawn ++ open_ends now slices))
