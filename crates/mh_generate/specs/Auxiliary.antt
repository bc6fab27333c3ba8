-- Auxiliary definitions: what loops, private functions and the insides of types keep. No public contract depends on them.
use Rattle.std.specs.Prelude.{ℕ, suc, nat_lt, nat_le, Bool, true, ◌&&◌, ◌||◌, if◌then◌else◌, List, [], ◌∷◌, map, codes, decimal, ◌≡◌, ◌⊎◌, ◌==◌, false, not, get_or}
use Rattle.mh_model.specs.{declared.config.Config.Config, declared.command.Event.Event}
use Rattle.mh_model.specs.{Bytes.{Text, joined, lines_text}, HistoryTexts.event_words, declared.command.Command.Command}
use Rattle.mh_model.specs.World.{World}

-- the numbers of a configuration
abbrev pub config_numbers : Config → List ℕ
config_numbers config = config.pages ∷ config.quantum ∷ config.trigger ∷ config.every ∷ []

-- `config PAGES QUANTUM TRIGGER EVERY`
abbrev pub config_line : Config → Text
config_line config = joined (codes "config" ∷ map decimal (config_numbers config))

-- `sN COMMAND` for a command of session N, or `* CONTROL`
abbrev pub event_line : Event → Text
event_line event = joined (event_words event)

-- a script with this configuration and these events
abbrev pub script_text : Config → List Event → Text
script_text config events = lines_text (config_line config ∷ map event_line events)

-- how many names were seen, eight at most, once an event more is
abbrev pub named_after : ℕ → Event → ℕ
named_after named (Event.Session who command) = if nat_lt who named || nat_le 8 named then named else suc named
named_after named (Event.Control control) = named

-- the event's session is one that was seen, or the next
abbrev pub is_next : ℕ → Event → Bool
is_next named (Event.Session who command) = nat_le who named
is_next named (Event.Control control) = true

-- each event's is, so that sessions are first named in the order of their numbers
abbrev pub are_in_order : ℕ → List Event → Bool
are_in_order named [] = true
are_in_order named (event ∷ events) = is_next named event && are_in_order (named_after named event) events

-- how many names were seen after events in order
abbrev pub named_after_all : ℕ → List Event → ℕ
named_after_all named [] = named
named_after_all named (event ∷ events) = named_after_all (named_after named event) events

-- the first session has not ended
abbrev pub is_first_here : World → Bool
is_first_here world = not (get_or world.ended 0 false)

abbrev pub is_end : Command → Bool
is_end Command.End = true
is_end _ = false

-- the command ends the first session
abbrev pub ends_first : ℕ → Command → Bool
ends_first who command = (who == 0) && is_end command

-- a session's command, or in its place one of the first session that is never refused and changes nothing
abbrev pub IsSaid : ℕ → Command → ℕ × Command → Type 0
IsSaid who asked said = (said ≡ (who, asked)) ⊎ (said ≡ (0, Command.Same 0 0))
