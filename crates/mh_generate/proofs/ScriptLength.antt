-- A script of 1,000,000 events is short enough to be read.
use Rattle.std.proofs.Common.{◌≡◌, ◌+◌, ◌*◌, ◌≤◌, nat_le, true, List, [], ◌∷◌, ◌++◌, length, map, ap, refl, codes, arith, length-append}
use Rattle.std.proofs.{lemmas.Bool.{and_parts, and_from, leb-true, lt-ltb}, lemmas.Fmt.decimal_digit}
use Rattle.std.specs.List.{list_all}
use Rattle.mh_model.specs.{declared.command.Event.Event, declared.config.Config.Config}
use Rattle.mh_model.specs.{declared.history.Version.TheVariants.Two, Bytes.{Text, joined, lines_text}}
use Rattle.mh_model.specs.Forms.{are_below, command_phrase, control_phrase, is_sayable, knows_control, phrase_words, u32}
use Rattle.mh_model.specs.HistoryTexts.{is_event}
use Rattle.mh_text_laws.proofs.round_trips.HeaderRoundTrips.{config_limits}
use Rattle.mh_generate.proofs.NameLemmas.{session_name}
use Rattle.mh_generate.proofs.PhraseLemmas.{fine_command, fine_control, numbers_length, phrase_length}
use Rattle.mh_generate.specs.Auxiliary.{config_line, config_numbers, event_line, script_text}

-- a line of an event has 63 bytes at most
event_length : (e : Event) → is_event Two e ≡ true → length (event_line e) ≤ 63
event_length (Event.Session who c) h =
    let both = and_parts (nat_le who 8) (is_sayable (command_phrase c)) h in
    let digit = ap length (decimal_digit who (omega (arith, leb-true who 8 both.0))) in
    omega (arith, digit, phrase_length (command_phrase c) (fine_command c) both.1, length-append (session_name who) (32 ∷ joined (phrase_words (command_phrase c))))
event_length (Event.Control c) h =
    let both = and_parts (knows_control Two c) (is_sayable (control_phrase c)) h in
    omega (arith, phrase_length (control_phrase c) (fine_control c) both.1, length-append (codes "*") (32 ∷ joined (phrase_words (control_phrase c))))

lines-cons : (line : Text) (lines : List Text) → length (lines_text (line ∷ lines)) ≡ length line + 1 + length (lines_text lines)
lines-cons line lines = omega (arith, length-append (line ++ 10 ∷ []) (lines_text lines), length-append line (10 ∷ []))

events_length : (events : List Event) → list_all (is_event Two) events ≡ true → length (lines_text (map event_line events)) ≤ 64 * length events
events_length [] known = omega arith
events_length (e ∷ events) known =
    let both = and_parts (is_event Two e) (list_all (is_event Two) events) known in
    omega (arith, event_length e both.0, events_length events both.1, lines-cons (event_line e) (map event_line events))

small_config : (c : Config) → are_below (u32 ∷ u32 ∷ u32 ∷ u32 ∷ []) (config_numbers c) ≡ true
small_config c =
    let limits = config_limits c in
    let p = lt-ltb c.pages u32 (omega (arith, limits.pages_most)) in
    let q = lt-ltb c.quantum u32 (omega (arith, limits.quantum_most)) in
    let t = lt-ltb c.trigger u32 (omega (arith, limits.trigger_most)) in
    let e = lt-ltb c.every u32 (omega (arith, limits.every_most)) in
    and_from _ _ p (and_from _ _ q (and_from _ _ t (and_from _ _ e refl)))

config_length : (c : Config) → length (config_line c) ≤ 63
config_length c = omega (arith, numbers_length (codes "config") (u32 ∷ u32 ∷ u32 ∷ u32 ∷ []) (config_numbers c) refl (small_config c))

pub script_length : (c : Config) (events : List Event) → list_all (is_event Two) events ≡ true → length events ≤ 1000000 → length (script_text c events) ≤ 67108864
script_length c events known few = omega (arith, config_length c, events_length events known, lines-cons (config_line c) (map event_line events))
