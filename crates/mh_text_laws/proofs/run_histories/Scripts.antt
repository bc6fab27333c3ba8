-- What a script means: a configuration under the second rules, and events that a history of version 2 can have.
use Rattle.std.proofs.Common.{◌≡◌, ◌∙◌, ℕ, suc, ◌≤◌, nat_le, nat_lt, ◌&&◌, if◌then◌else◌, Bool, true, false, List, [], ◌∷◌, length, length-append, map, Option, Some, None, ap, sym, refl, arith}
use Rattle.std.proofs.{lemmas.Bool.{and_from, le-leb, leb-false}, lemmas.Option.{none-some, same_Some}}
use Rattle.std.specs.List.{list_all}
use Rattle.mh_model.specs.{declared.command.Command.Command, declared.command.Control.Control}
use Rattle.mh_model.specs.{declared.command.Event.Event, declared.config.Config.Config}
use Rattle.mh_model.specs.{declared.config.Rules.TheVariants.Second, declared.history.Version.TheVariants.Two}
use Rattle.mh_model.specs.{Bytes.{Text, cut_after, words}, Configs.configured_by}
use Rattle.mh_model.specs.Forms.{command_of, command_phrase, control_of, control_phrase, is_sayable, knows_control}
use Rattle.mh_model.specs.{HistoryTexts.is_event, Limits.is_configuration}
use Rattle.mh_model.specs.Script.{Asks, BadLine, Blank, Calls, Line, Meaning, Means, Reading, Wrong, after_config, asks, calls, config_of, config_words, events_from, is_blank, line_of, line_words, reading, reading_map, script_from, script_of, session_number, with_name}
use Rattle.mh_text_laws.proofs.rewritings.FormsWrittenAgain.{command_is, control_again}

-- a reading that was changed, and means something
pub map_means : {X Y : Type 0} (f : X → Y) (r : Reading X) (y : Y) → reading_map f r ≡ Means y → (x : X) × (r ≡ Means x) × (f x ≡ y)
map_means f r y e = grind arith

-- Lines ------------------------------------------------------------------------------------------

-- what a line says is a command or a control that can be written
abbrev IsSaid : Line → Type 0
IsSaid Blank = Unit {0}
IsSaid (Calls name c) = is_sayable (command_phrase c) ≡ true
IsSaid (Asks c) = (knows_control Two c && is_sayable (control_phrase c)) ≡ true
IsSaid Wrong = Unit {0}

calls_said : (test : Bool) (name : Text) (ws : List Text) (found : Option Command) → command_of ws ≡ found → IsSaid (calls test name found)
calls_said test name ws found is = grind (arith, command_is)

asks_said : (ws : List Text) (found : Option Control) → control_of Two ws ≡ found → IsSaid (asks found)
asks_said ws found is = search (arith, control_again, and_from)

words_said : (ws : List Text) → IsSaid (line_words ws)
words_said [] = tt
words_said (name ∷ ws) = grind (arith, asks_said, calls_said)

line_said : (line : Text) → IsSaid (line_of line)
line_said line = grind (arith, words_said)

-- Sessions ---------------------------------------------------------------------------------------

number-few : (names : List Text) (name : Text) → session_number names name ≤ length names
number-few [] name = omega arith
number-few (x ∷ names) name = grind (arith, number-few names name)

names-few : (names : List Text) (name : Text) → length names ≤ 8 → length (with_name names name) ≤ 8
names-few names name few = grind (arith, nat_le, leb-false, length-append)

-- Events -----------------------------------------------------------------------------------------

event_known : (names : List Text) (n : ℕ) (said : Line) (lines : List Line) (rest : Text) (events : List Event) → length names ≤ 8 → IsSaid said
    → ((names : List Text) (n : ℕ) (events : List Event) → length names ≤ 8 → events_from names n lines rest ≡ Means events → list_all (is_event Two) events ≡ true)
    → events_from names n (said ∷ lines) rest ≡ Means events → list_all (is_event Two) events ≡ true
event_known names n Blank lines rest events few known later e = later names (suc n) events few e
event_known names n (Calls name c) lines rest events few known later e =
    let next : Event = Event.Session (session_number names name) c in
    let (more, is, same) = map_means (λ (events : List Event). next ∷ events) (events_from (with_name names name) (suc n) lines rest) events e in
    let number : nat_le (session_number names name) 8 ≡ true = le-leb (session_number names name) 8 (omega (arith, number-few names name, few)) in
    ap (list_all (is_event Two)) (sym same) ∙ and_from _ _ (and_from _ _ number known) (later (with_name names name) (suc n) more (names-few names name few) is)
event_known names n said lines rest events few known later e = grind (arith, map_means, and_from)

events_known : (lines : List Text) (rest : Text) (names : List Text) (n : ℕ) (events : List Event) → length names ≤ 8 → events_from names n (map line_of lines) rest ≡ Means events → list_all (is_event Two) events ≡ true
events_known [] rest names n events few e = grind arith
events_known (line ∷ lines) rest names n events few e = event_known names n (line_of line) (map line_of lines) rest events few (line_said line) (events_known lines rest) e

-- Configurations ---------------------------------------------------------------------------------

configured_second : (pages quantum trigger every : ℕ) (answer : Bool) (is : is_configuration pages quantum trigger every ≡ answer) (config : Config)
    → configured_by Second pages quantum trigger every answer is ≡ Some config → config.rules ≡ Second
configured_second pages quantum trigger every answer is config e = grind (arith, same_Some, none-some)

numbers_second : (ns : List ℕ) (config : Config) → config_of ns ≡ Some config → config.rules ≡ Second
numbers_second other config e = grind (arith, configured_second, none-some)

config_second : (ws : List Text) (config : Config) → config_words ws ≡ Some config → config.rules ≡ Second
config_second ws config e = search (arith, none-some, numbers_second)

-- Texts ------------------------------------------------------------------------------------------

pub record IsKnown (script : Meaning) : Type 0 where
  pub second : script.config.rules ≡ Second
  pub events : list_all (is_event Two) script.events ≡ true

config_known : (found : Option Config) (n : ℕ) (lines : List Text) (rest : Text) (script : Meaning) → ((config : Config) → found ≡ Some config → config.rules ≡ Second) → after_config found n lines rest ≡ Means script → IsKnown script
config_known None n lines rest script second e = cc
config_known (Some config) n lines rest script second e =
    let made : List Event → Meaning = λ events. record { config = config; events = events } in
    let (events, is, same) = map_means made (events_from [] (suc n) (map line_of lines) rest) script e in
    record {
      second = ap (λ (s : Meaning). s.config.rules) (sym same) ∙ second config refl;
      events = ap (λ (s : Meaning). list_all (is_event Two) s.events) (sym same) ∙ events_known lines rest [] (suc n) events (omega arith) is;
    }

lines_known : (n : ℕ) (lines : List Text) (rest : Text) (script : Meaning) → script_from n lines rest ≡ Means script → IsKnown script
lines_known n [] rest script e = cc
lines_known n (line ∷ lines) rest script e = go (is_blank line) (lines_known (suc n) lines rest script) e
  where
    go : (test : Bool) → (script_from (suc n) lines rest ≡ Means script → IsKnown script)
        → (if test then script_from (suc n) lines rest else after_config (config_words (words line)) n lines rest) ≡ Means script → IsKnown script
    go true later h = later h
    go false later h = config_known (config_words (words line)) n lines rest script (config_second (words line)) h

pub script_known : (text : Text) (script : Meaning) → reading text ≡ Means script → IsKnown script
unfolding reading
script_known text script e = go (nat_lt 67108864 (length text)) e
  where
    go : (long : Bool) → (if long then BadLine 0 else script_of (cut_after 10 text)) ≡ Means script → IsKnown script
    go true h = cc
    go false h = lines_known 1 (cut_after 10 text).pieces (cut_after 10 text).rest script h
