-- A script is read as it was written.
use Rattle.std.proofs.Common.{◌≡◌, ◌∙◌, ℕ, suc, ◌+◌, if◌then◌else◌, ◌<◌, ◌≤◌, ◌^◌, nat_lt, nat_le, ◌||◌, Bool, true, false, Option, Some, option_and_then, List, [], ◌∷◌, length, map, ap, sym, refl, decimal, codes, arith}
use Rattle.std.proofs.lemmas.Bool.{and_parts, and_from, lt-ltb, leb-true, leb-false, le-leb, le-ltb}
use Rattle.std.proofs.lemmas.Fmt.{decimal_digit}
use Rattle.std.specs.List.{list_all}
use Rattle.mh_model.specs.{declared.command.Event.Event, declared.config.Config.Config, declared.config.Rules.Rules}
use Rattle.mh_model.specs.{declared.config.Rules.TheVariants.Second, declared.history.Version.TheVariants.Two}
use Rattle.mh_model.specs.{Bytes.{Text, is_digit, is_letter, is_name, words}, Configs.configured_under}
use Rattle.mh_model.specs.Forms.{command_phrase, control_phrase, is_sayable, knows_control, phrase_words, u64}
use Rattle.mh_model.specs.{HistoryTexts.{event_words, is_event}, Replies.are_u64}
use Rattle.mh_model.specs.Script.{Asks, Calls, Line, Means, Reading, after_config, config_of, config_words, events_from, line_of, line_words, reading, reading_map, script_from, script_of, with_event, with_name}
use Rattle.mh_model.proofs.ConfigLemmas.{configured-within}
use Rattle.mh_text_laws.proofs.{ListLemmas.all-map, round_trips.HeaderRoundTrips.config_limits}
use Rattle.mh_text_laws.proofs.round_trips.HistoryRoundTrips.{cut-text}
use Rattle.mh_text_laws.proofs.round_trips.ReplyRoundTrips.{command_of-words, control_of-words}
use Rattle.mh_text_laws.proofs.round_trips.WordRoundTrips.{all-decimals, are_free, are_words, decimal_word, is_free, is_word, joined_free, numbers-decimal, words-joined}
use Rattle.mh_generate.proofs.PhraseLemmas.{fine_command, fine_control, phrase_are_words}
use Rattle.mh_generate.proofs.NameLemmas.{first_names, number-first, session_name, with_name-first}
use Rattle.mh_generate.specs.Auxiliary.{are_in_order, config_line, config_numbers, event_line, is_next, named_after, script_text}

-- Words ------------------------------------------------------------------------------------------

small_who : (who : ℕ) → nat_le who 8 ≡ true → who < 2 ^ 64
small_who who h = omega (arith, leb-true who 8 h)

pub event_are_words : (e : Event) → is_event Two e ≡ true → are_words (event_words e) ≡ true
event_are_words (Event.Session who c) h =
    let both = and_parts (nat_le who 8) (is_sayable (command_phrase c)) h in
    and_from _ _ (and_from _ _ refl (decimal_word who (small_who who both.0))) (phrase_are_words (command_phrase c) (fine_command c) both.1)
event_are_words (Event.Control c) h =
    and_from _ _ refl (phrase_are_words (control_phrase c) (fine_control c) (and_parts (knows_control Two c) (is_sayable (control_phrase c)) h).1)

-- Names ------------------------------------------------------------------------------------------

name_is : (who : ℕ) → nat_le who 8 ≡ true → is_name (session_name who) ≡ true
name_is who few =
    let low : nat_le 48 (48 + who) ≡ true = le-leb 48 (48 + who) (omega arith) in
    let high : nat_le (48 + who) 57 ≡ true = le-leb (48 + who) 57 (omega (arith, leb-true who 8 few)) in
    let digit : is_digit (48 + who) ≡ true = and_from _ _ low high in
    let letter_or_digit : (is_letter (48 + who) || is_digit (48 + who)) ≡ true = rw digit (or-true (is_letter (48 + who))) in
    rw (decimal_digit who (omega (arith, leb-true who 8 few))) (and_from _ _ (and_from _ _ letter_or_digit refl) refl)
  where
    or-true : (b : Bool) → (b || true) ≡ true
    or-true true = refl
    or-true false = refl

-- Lines ------------------------------------------------------------------------------------------

-- what the line of an event says
abbrev line_said : Event → Line
line_said (Event.Session who c) = Calls (session_name who) c
line_said (Event.Control c) = Asks c

words_said : (e : Event) → is_event Two e ≡ true → line_words (event_words e) ≡ line_said e
words_said (Event.Session who c) h =
    let both = and_parts (nat_le who 8) (is_sayable (command_phrase c)) h in
    rw (name_is who both.0, command_of-words c both.1) refl
words_said (Event.Control c) h =
    let both = and_parts (knows_control Two c) (is_sayable (control_phrase c)) h in
    rw (control_of-words Two c both.0 both.1) refl

words-line : (e : Event) → is_event Two e ≡ true → words (event_line e) ≡ event_words e
words-line (Event.Session who c) h = words-joined (session_name who) (phrase_words (command_phrase c)) (event_are_words (Event.Session who c) h)
words-line (Event.Control c) h = words-joined (codes "*") (phrase_words (control_phrase c)) (event_are_words (Event.Control c) h)

line-unblank : (e : Event) → line_of (event_line e) ≡ line_words (words (event_line e))
line-unblank (Event.Session who c) = refl
line-unblank (Event.Control c) = refl

pub line_of-event : (e : Event) → is_event Two e ≡ true → line_of (event_line e) ≡ line_said e
line_of-event e h = line-unblank e ∙ ap line_words (words-line e h) ∙ words_said e h

-- Events -----------------------------------------------------------------------------------------

named-few : (named : ℕ) (e : Event) → named ≤ 8 → named_after named e ≤ 8
named-few named (Event.Session who c) few = go (nat_lt who named) (nat_le 8 named) refl where
  go : (s f : Bool) → nat_le 8 named ≡ f → (if s || f then named else suc named) ≤ 8
  go true f is = few
  go false true is = few
  go false false is = omega (arith, leb-false 8 named is)
named-few named (Event.Control c) few = few

step_event : (named n : ℕ) (e : Event) (lines : List Line) → named ≤ 8 → is_event Two e ≡ true → is_next named e ≡ true
    → events_from (first_names named) n (line_said e ∷ lines) [] ≡ with_event e (events_from (first_names (named_after named e)) (suc n) lines [])
step_event named n (Event.Session who c) lines few known next =
    let both = and_parts (nat_le who 8) (is_sayable (command_phrase c)) known in
    let small : who < 2 ^ 64 = small_who who both.0 in
    let low : who ≤ named = leb-true who named next in
    let more : List Text → Reading (List Event) = λ names. events_from names (suc n) lines [] in
    ap (λ (number : ℕ). with_event (Event.Session number c) (more (with_name (first_names named) (session_name who)))) (number-first named who low small)
    ∙ ap (λ (names : List Text). with_event (Event.Session who c) (more names)) (with_name-first named who low small few)
step_event named n (Event.Control c) lines few known next = refl

events_from-lines : (named n : ℕ) (events : List Event) → named ≤ 8 → list_all (is_event Two) events ≡ true → are_in_order named events ≡ true
    → events_from (first_names named) n (map line_of (map event_line events)) [] ≡ Means events
events_from-lines named n [] few known order = refl
events_from-lines named n (e ∷ events) few known order =
    let both = and_parts (is_event Two e) (list_all (is_event Two) events) known in
    let next = and_parts (is_next named e) (are_in_order (named_after named e) events) order in
    let lines : List Line = map line_of (map event_line events) in
    ap (λ (line : Line). events_from (first_names named) n (line ∷ lines) []) (line_of-event e both.0)
    ∙ step_event named n e lines few both.0 next.0
    ∙ ap (with_event e) (events_from-lines (named_after named e) (suc n) events (named-few named e few) both.1 next.1)

-- Scripts ----------------------------------------------------------------------------------------

small_config : (c : Config) → are_u64 (config_numbers c) ≡ true
small_config c =
    let limits = config_limits c in
    let p = lt-ltb c.pages u64 (omega (arith, limits.pages_most)) in
    let q = lt-ltb c.quantum u64 (omega (arith, limits.quantum_most)) in
    let t = lt-ltb c.trigger u64 (omega (arith, limits.trigger_most)) in
    let e = lt-ltb c.every u64 (omega (arith, limits.every_most)) in
    and_from _ _ p (and_from _ _ q (and_from _ _ t (and_from _ _ e refl)))

config_are_words : (c : Config) → are_words (codes "config" ∷ map decimal (config_numbers c)) ≡ true
config_are_words c = and_from _ _ refl (all-decimals is_word decimal_word (config_numbers c) (small_config c))

config_words-line : (c : Config) → c.rules ≡ Second → config_words (words (config_line c)) ≡ Some c
config_words-line c second =
    ap config_words (words-joined (codes "config") (map decimal (config_numbers c)) (config_are_words c))
    ∙ ap (option_and_then config_of) (numbers-decimal (config_numbers c) (small_config c))
    ∙ ap (λ (rules : Rules). configured_under rules c.pages c.quantum c.trigger c.every) (sym second)
    ∙ configured-within c.rules c.pages c.quantum c.trigger c.every c.in_limits

script_of-lines : (c : Config) (events : List Event) → c.rules ≡ Second → list_all (is_event Two) events ≡ true → are_in_order 0 events ≡ true
    → script_from 1 (config_line c ∷ map event_line events) [] ≡ Means (record { config = c; events = events })
script_of-lines c events second known order =
    ap (λ (found : Option Config). after_config found 1 (map event_line events) []) (config_words-line c second)
    ∙ ap (reading_map (λ (events : List Event). record { config = c; events = events })) (events_from-lines 0 2 events (omega arith) known order)

pub reading-script : (c : Config) (events : List Event) → c.rules ≡ Second → list_all (is_event Two) events ≡ true → are_in_order 0 events ≡ true → length (script_text c events) ≤ 67108864
    → reading (script_text c events) ≡ Means (record { config = c; events = events })
unfolding reading
reading-script c events second known order short =
    let free : are_free 10 (config_line c ∷ map event_line events) ≡ true =
    and_from _ _ (joined_free (codes "config" ∷ map decimal (config_numbers c)) (config_are_words c))
    (all-map (is_event Two) (is_free 10) event_line events (λ e known. joined_free (event_words e) (event_are_words e known)) known) in
    rw (le-ltb 67108864 (length (script_text c events)) short)
    (ap script_of (cut-text (config_line c ∷ map event_line events) free) ∙ script_of-lines c events second known order)
