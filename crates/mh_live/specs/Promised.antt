-- What lines promise that are answered as they come: their answers show the machine's replies, which are those of an outcome that keeps the promise.
use Rattle.std.specs.Prelude.{◌≡◌, ◌<◌, ◌≤◌, ◌⊎◌, ℕ, suc, Bool, true, false, Option, Some, None, List, [], ◌∷◌, ◌++◌, length}
use Rattle.mh_model.specs.{declared.command.Event.Event, declared.config.Config.Config, declared.reply.Reply.Reply}
use Rattle.mh_model.specs.{Bytes.{Text, line_text, words}, Limits.most_events, Live.{Live, Runs, Waits, needs_memory}}
use Rattle.mh_model.specs.{Machine.{first_machine, machine_after, machine_replies}, Replies.{bad_line_text, reply_text}}
use Rattle.mh_model.specs.Script.{Line, Asks, Blank, Calls, Wrong, config_words, is_blank, line_of, session_number, with_name}
use Rattle.mh_promise.specs.Promise.{ArePromised}
use Rattle.mh_live.specs.Answers.{full_line, starved_line}

-- Events of lines --------------------------------------------------------------------------------

-- the event of a line after the configuration when these are the first names seen
abbrev pub line_event : List Text → Line → Option Event
line_event names Blank = None
line_event names Wrong = None
line_event names (Calls name command) = Some (Event.Session (session_number names name) command)
line_event names (Asks control) = Some (Event.Control control)

-- the names seen once the event of a line is done
abbrev pub names_after : List Text → Line → List Text
names_after names (Calls name command) = with_name names name
names_after names _ = names

-- Answers ----------------------------------------------------------------------------------------

-- Line n left a run without its configuration, and was answered so. If it is one, memory was refused for its machine
abbrev pub LeavesWaiting : ℕ → Text → Text → Type 0
LeavesWaiting n line = by_test (is_blank line) (config_words (words line)) where
  by_test : Bool → Option Config → Text → Type 0
  by_test true found text = text ≡ []
  by_test false None text = text ≡ line_text (bad_line_text n)
  by_test false (Some config) text = text ≡ starved_line

-- Line n did no event once so many were done, and was answered so. If it has one, that came after the last of all, or memory was refused for it
abbrev pub DoesNothing : ℕ → ℕ → Line → Text → Type 0
DoesNothing n count Blank text = text ≡ []
DoesNothing n count Wrong text = text ≡ line_text (bad_line_text n)
DoesNothing n count line text = ((most_events ≤ count) × (text ≡ full_line)) ⊎ ((needs_memory line ≡ true) × (text ≡ starved_line))

-- Lines from line n on, once these names were seen and so many events done, were answered with this text. It shows these replies in order, a line for
-- each event that the lines did. Beside them it has only what lines are answered that did none
pub data ShowReplies : ℕ → List Text → ℕ → List Text → List Event → List Reply → Text → Type 0 where
  Ended : (n : ℕ) (names : List Text) (count : ℕ) → ShowReplies n names count [] [] [] []
  Does : (n : ℕ) (names : List Text) (count : ℕ) (line : Text) (lines : List Text) (event : Event) (events : List Event) (given : Reply) (replies : List Reply) (text : Text)
      → line_event names (line_of line) ≡ Some event → count < most_events → ShowReplies (suc n) (names_after names (line_of line)) (suc count) lines events replies text
      → ShowReplies n names count (line ∷ lines) (event ∷ events) (given ∷ replies) (line_text (reply_text given) ++ text)
  Passes : (n : ℕ) (names : List Text) (count : ℕ) (line shown : Text) (lines : List Text) (events : List Event) (replies : List Reply) (text : Text)
      → DoesNothing n count (line_of line) shown → ShowReplies (suc n) names count lines events replies text → ShowReplies n names count (line ∷ lines) events replies (shown ++ text)

-- A run waited for its configuration at line n. It answered these lines with this text, and stands so then. Either it waits still, and no event was done.
-- Or a line was the configuration, and the answers to the lines after it show the machine's replies to the events that they did. These replies keep the
-- promise. The machine is the one after these events, and its count is their number
pub data ArePromisedAnswers : ℕ → List Text → Text → Live → Type 0 where
  Waiting : (n : ℕ) → ArePromisedAnswers n [] [] Waits
  Unopened : (n : ℕ) (line shown : Text) (lines : List Text) (text : Text) (after : Live) → LeavesWaiting n line shown → ArePromisedAnswers (suc n) lines text after → ArePromisedAnswers n (line ∷ lines) (shown ++ text) after
  Opened : (n : ℕ) (line : Text) (lines : List Text) (text : Text) (config : Config) (events : List Event) (names : List Text)
      → is_blank line ≡ false → config_words (words line) ≡ Some config → ShowReplies (suc n) [] 0 lines events (machine_replies (first_machine config) events) text
      → ArePromised config events (machine_replies (first_machine config) events)
      → ArePromisedAnswers n (line ∷ lines) text (Runs (machine_after (first_machine config) events) names (length events))
