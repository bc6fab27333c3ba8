-- What the lines of a script are answered one by one, as they come: by the machine of the configuration that they begin with, or by a world.
use Rattle.std.specs.Prelude.{◌≡◌, ℕ, suc, nat_lt, Bool, true, false, not, ◌&&◌, if◌then◌else◌, is_some, is_none, Option, Some, None, List, [], ◌∷◌, ◌++◌, length, codes}
use Rattle.mh_model.specs.{declared.config.Config.Config, declared.command.Command.Command}
use Rattle.mh_model.specs.{declared.command.Event.Event, Bytes.{Text, cut_after, words, line_text}, Limits.most_events}
use Rattle.mh_model.specs.{Machine.{Machine, first_machine, event_step}, Replies.{bad_line_text, reply_text}}
use Rattle.mh_model.specs.Script.{Line, Blank, Calls, Asks, Wrong, config_words, is_blank, line_of, session_number, with_name}
use Rattle.mh_model.specs.World.{World, first_world, never_full, refusal, sight_of, world_step}
use Rattle.mh_model.specs.declared.command.Control.{Control}

-- where a run by lines stands between two of them. The configuration hasn't come; or there is a machine, with the first names seen and how many
-- events it has answered; or there is a world, with the same
pub data Live : Type 0 where
  Waits : Live
  Runs : (machine : Machine) (names : List Text) (count : ℕ) → Live
  Grows : (world : World) (names : List Text) (count : ℕ) → Live

-- before the first line, in the world of a configuration, which waits for none
abbrev pub first_world_live : Config → Live
first_world_live config = Grows (first_world config) [] 0

-- what a line is answered, and what is then
pub record Turn : Type 0 where
  pub text : Text
  pub live : Live

-- The turn of a line ------------------------------------------------------------------------------

-- the turn of a line that is answered with nothing
abbrev pub answers_nothing : Live → Turn
answers_nothing live = record { text = []; live = live }

-- the turn of a line that is answered with one line
abbrev pub answers_line : Text → Live → Turn
answers_line text live = record { text = line_text text; live = live }

-- the turn of line n, which is to be the configuration: it is answered with nothing; or refused, and the configuration is still to come
abbrev pub config_turn : ℕ → Option Config → Turn
config_turn n None = answers_line (bad_line_text n) Waits
config_turn n (Some config) = answers_nothing (Runs (first_machine config) [] 0)

-- the turn of an event: its reply, and these are the names seen after it; after the last event of all, a refusal that changes nothing
abbrev pub event_turn : Machine → List Text → ℕ → List Text → Event → Turn
event_turn machine names count seen event =
    if nat_lt count most_events then
    (let answer = event_step machine event in answers_line (reply_text answer.reply) (Runs answer.state seen (suc count)))
    else answers_line (codes "refused 8 history full") (Runs machine names count)

-- the turn of a command in a world: its reply, and the names seen after it; after the last event of all, a refusal that changes nothing
abbrev pub command_turn : World → List Text → ℕ → List Text → ℕ → Command → Turn
command_turn world names count seen who command =
    if nat_lt count most_events then
    (let answer = world_step world who command in answers_line (reply_text answer.reply) (Grows answer.state seen (suc count)))
    else answers_line (codes "refused 8 history full") (Grows world names count)

-- the turn of line n after the configuration, by what it says
abbrev pub line_turn : ℕ → Machine → List Text → ℕ → Line → Turn
line_turn n machine names count Blank = answers_nothing (Runs machine names count)
line_turn n machine names count (Calls name command) = event_turn machine names count (with_name names name) (Event.Session (session_number names name) command)
line_turn n machine names count (Asks control) = event_turn machine names count names (Event.Control control)
line_turn n machine names count Wrong = answers_line (bad_line_text n) (Runs machine names count)

-- the turn of line n in a world, by what it says: a control is refused, and changes nothing
abbrev pub world_turn : ℕ → World → List Text → ℕ → Line → Turn
world_turn n world names count Blank = answers_nothing (Grows world names count)
world_turn n world names count (Calls name command) = command_turn world names count (with_name names name) (session_number names name) command
world_turn n world names count (Asks control) = answers_line (codes "refused 11 no collector") (Grows world names count)
world_turn n world names count Wrong = answers_line (bad_line_text n) (Grows world names count)

-- the turn of line n: a reply, nothing, or a refusal. A line outside the grammar is refused with its number and changes nothing
unfoldable pub turn : ℕ → Live → Text → Turn
turn n Waits line = if is_blank line then answers_nothing Waits else config_turn n (config_words (words line))
turn n (Runs machine names count) line = line_turn n machine names count (line_of line)
turn n (Grows world names count) line = world_turn n world names count (line_of line)

-- Lines in turn -----------------------------------------------------------------------------------

-- a line with an event for which memory may be refused: a command and a quantum need it for the trace, a dump for its items
abbrev pub needs_memory : Line → Bool
needs_memory (Calls name command) = true
needs_memory (Asks Control.Quantum) = true
needs_memory (Asks Control.Dump) = true
needs_memory _ = false

-- a line that makes a new object in a world
abbrev pub makes_object : World → List Text → Line → Bool
makes_object world names (Calls name (Command.New slot references numbers)) = is_none (refusal (sight_of never_full world) (session_number names name) (Command.New slot references numbers))
makes_object world names _ = false

-- a line that makes a machine; whose event may need memory: a command, a quantum or a dump; or that makes a new object in a world
abbrev pub takes_memory : Live → Text → Bool
takes_memory Waits line = not (is_blank line) && is_some (config_words (words line))
takes_memory (Runs machine names count) line = needs_memory (line_of line)
takes_memory (Grows world names count) line = makes_object world names (line_of line)

-- what line n may be answered: its turn, or that memory was refused, which changes nothing
pub data IsTurn (n : ℕ) (live : Live) (line : Text) : Turn → Type 0 where
  Taken : IsTurn n live line (turn n live line)
  Starved : takes_memory live line ≡ true → IsTurn n live line (answers_line (codes "refused 9 no memory") live)

-- what the lines from line n on may be answered one after another, and what is then
pub data AreTurns : ℕ → Live → List Text → Text → Live → Type 0 where
  Ended : (n : ℕ) (live : Live) → AreTurns n live [] [] live
  Turned : (n : ℕ) (live : Live) (line : Text) (lines : List Text) (first : Turn) (text : Text) (after : Live) → IsTurn n live line first → AreTurns (suc n) first.live lines text after → AreTurns n live (line ∷ lines) (first.text ++ text) after

-- a last line without its end is line n, and is refused as outside the grammar
abbrev pub unended_text : ℕ → Text → Text
unended_text n [] = []
unended_text n (byte ∷ bytes) = line_text (bad_line_text n)

-- the answers to a text of lines, to its end, by what there is first
pub record IsLive (first : Live) (text written : Text) : Type 0 where
  pub answers : Text
  pub after : Live
  pub turns : AreTurns 1 first (cut_after 10 text).pieces answers after
  pub whole : written ≡ answers ++ unended_text (suc (length (cut_after 10 text).pieces)) (cut_after 10 text).rest

-- the answers if memory is never refused: to the lines from line n on, and to a text
abbrev pub live_from : ℕ → Live → List Text → Text → Text
live_from n live [] rest = unended_text n rest
live_from n live (line ∷ lines) rest = (turn n live line).text ++ live_from (suc n) (turn n live line).live lines rest

unfoldable pub live_output : Live → Text → Text
live_output first text = live_from 1 first (cut_after 10 text).pieces (cut_after 10 text).rest
