-- What a run of a script writes as its steps: each event with its reply, and below it what it did.
use Rattle.std.specs.Prelude.{◌≡◌, ℕ, suc, if◌then◌else◌, List, [], ◌∷◌, ◌++◌}
use Rattle.mh_model.specs.{declared.command.Event.Event, declared.config.Config.Config, declared.history.Entry.Entry}
use Rattle.mh_model.specs.{declared.reply.Reply.Reply, Bytes.Text, Deeds.{Account, account_of}}
use Rattle.mh_model.specs.Machine.{Machine, event_step}
use Rattle.mh_machine.specs.Running.{Running, first_running}
use Rattle.mh_script.specs.Lines.{Told, lines_from}
use Rattle.mh_orders.specs.{declared.steps.Steps.Steps, Steps.is_asked}
use Rattle.mh_tell_steps.specs.{declared.figures.HeapCounts.HeapCounts, declared.figures.EventSpan.EventSpan}
use Rattle.mh_tell_steps.specs.{Figures.{counts_of, moment_of}, Lines.{account_text, config_line, entry_line}}
use Rattle.mh_tell_steps.specs.Names.{names_text}
use Rattle.mh_text.specs.Names.{names_in}

-- the account of the event of this moment, which left these counts, if its deeds are asked for
abbrev pub deeds_text : Steps → EventSpan → HeapCounts → ℕ → Account → Text
deeds_text steps moment counts quantum account = if is_asked steps moment.number then account_text steps.form moment counts quantum account else []

-- an event of the machine with its reply, and what it did
abbrev pub event_text : Steps → ℕ → Machine → Event → Text
event_text steps number machine event =
    let answer = event_step machine event in
    let moment = moment_of number machine answer.state in
    entry_line steps.form moment (record { event = event; reply = answer.reply }) ++ deeds_text steps moment (counts_of answer.state.heap.collector) machine.heap.config.quantum (account_of machine event)

-- A run with its steps: its machine, and how many events it has done
pub record Stage : Type 0 where
  pub machine : Machine
  pub done : ℕ

abbrev pub stage_of : Running → Stage
stage_of running = record { machine = running.machine; done = running.done }

abbrev pub first_stage : Config → Stage
first_stage config = stage_of (first_running config)

abbrev pub stage_after : Stage → Event → Stage
stage_after at event = record { machine = (event_step at.machine event).state; done = suc at.done }

-- What each event adds. They are counted from 1
abbrev pub steps_told : Steps → Told Stage Event
steps_told steps = record { next = stage_after; line = λ at event. event_text steps (suc at.done) at.machine event; last = λ at. [] }

-- what stands before the first event: the configuration, and the names of a script's sessions
abbrev pub head_text : Steps → Text → Config → Text
head_text steps script config = config_line steps.form config ++ names_text steps.form 0 (names_in script)

-- The steps of a run of this script and these events from the first machine on
abbrev pub told_text : Steps → Text → Config → List Event → Text
told_text steps script config events = head_text steps script config ++ lines_from (steps_told steps) (first_stage config) events

-- Replies that are shown -------------------------------------------------------------------------

-- Events in turn, each with its reply, were written so, and nothing else was. The first of them has this number
abbrev pub AreInTurn : {A : Type 0} → (ℕ → Entry → List A → Type 0) → ℕ → List Event → List Reply → List A → Type 0
AreInTurn IsWritten number [] [] written = written ≡ []
AreInTurn IsWritten number (event ∷ events) (reply ∷ replies) written =
    (first rest : List _) × IsWritten number (record { event = event; reply = reply }) first × AreInTurn IsWritten (suc number) events replies rest × (written ≡ first ++ rest)
AreInTurn IsWritten number events replies written = ⊥

-- the entry of the event of this number was written as a line, and below it what an event did, if that is asked for
pub record IsTold (steps : Steps) (number : ℕ) (entry : Entry) (text : Text) : Type 0 where
  pub moment : EventSpan
  pub counts : HeapCounts
  pub quantum : ℕ
  pub account : Account
  pub numbered : moment.number ≡ number
  pub is : text ≡ entry_line steps.form moment entry ++ deeds_text steps moment counts quantum account

-- A text tells these replies to these events, below the configuration and the names of a script's sessions
pub record TellsReplies (steps : Steps) (config : Config) (events : List Event) (replies : List Reply) (text : Text) : Type 0 where
  pub script : Text
  pub told : Text
  pub each : AreInTurn (IsTold steps) 1 events replies told
  pub is : text ≡ head_text steps script config ++ told
