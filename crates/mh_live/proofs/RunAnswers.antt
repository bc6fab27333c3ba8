-- A script is answered line by line as its run answers it.
use Rattle.std.proofs.Common.{◌≡◌, ◌∙◌, ◌≤◌, ◌<◌, ℕ, suc, ◌+◌, if◌then◌else◌, nat_lt, append_assoc, Bool, true, false, Option, Some, None, List, [], ◌∷◌, ◌++◌, length, map, refl, sym, ap, subst, arith}
use Rattle.std.proofs.{lemmas.Bool.lt-ltb, lemmas.List.take_all}
use Rattle.mh_model.specs.{declared.command.Event.Event, declared.config.Config.Config}
use Rattle.mh_model.specs.{Bytes.{Text, cut_after, line_text, words}, Limits.{most_entries, most_events}}
use Rattle.mh_model.specs.{Machine.{Machine, event_step, first_machine, machine_replies}, Output.{output, output_of}}
use Rattle.mh_model.specs.Replies.{replies_text, reply_text}
use Rattle.mh_model.specs.Script.{Asks, BadLine, Blank, Calls, Line, Meaning, Means, Reading, Wrong, after_config, config_words, events_from, is_blank, line_of, reading, reading_map, script_from, script_of, session_number, with_event, with_name}
use Rattle.mh_model.specs.Live.{AreTurns, Ended, Live, Runs, Taken, Turn, Turned, Waits, event_turn, line_turn, live_from, live_output, turn, unended_text}
use Rattle.mh_live.specs.Laws.{ScriptsAreAnsweredAsRun, TextsHaveAnswers}

-- what a reading of a bad line means
bad-means : {X : Type 0} {n : ℕ} {x : X} → BadLine n ≡ Means x → ⊥
bad-means e = cc

-- what events mean that begin with one
record Begins (first : Event) (inner : Reading (List Event)) (events : List Event) : Type 0 where
  later : List Event
  is : inner ≡ Means later
  whole : first ∷ later ≡ events

begins : (first : Event) (inner : Reading (List Event)) (events : List Event) → with_event first inner ≡ Means events → Begins first inner events
begins first (BadLine n) events e = absurd (bad-means e)
begins first (Means later) events e = record { later = later; is = refl; whole = means-same e } where
  means-same : Means (first ∷ later) ≡ Means events → first ∷ later ≡ events
  means-same e = cc

-- a history is shorter than what a machine does
fewer : {count : ℕ} → count < most_entries → count < most_events
unfolding most_entries most_events
fewer below = omega (arith, below)

-- An event of a line, and then the rest: its reply, and then the replies to them
event_first : (machine : Machine) (names seen : List Text) (count : ℕ) (first : Event) → count < most_events → event_turn machine names count seen first ≡ record { text = line_text (reply_text (event_step machine first).reply); live = Runs (event_step machine first).state seen (suc count) }
event_first machine names seen count first below = rw (lt-ltb count most_events below) refl

replies_first : (machine : Machine) (first : Event) (later : List Event) → replies_text (machine_replies machine (first ∷ later)) ≡ line_text (reply_text (event_step machine first).reply) ++ replies_text (machine_replies (event_step machine first).state later)
unfolding machine_replies
replies_first machine first later = refl

replies_none : (machine : Machine) → replies_text (machine_replies machine []) ≡ []
unfolding machine_replies
replies_none machine = refl

turn_by : (n : ℕ) (machine : Machine) (names : List Text) (count : ℕ) (line : Text) (says : Line) → line_of line ≡ says → turn n (Runs machine names count) line ≡ line_turn n machine names count says
unfolding turn
turn_by n machine names count line says is = ap (line_turn n machine names count) is

-- what lines are answered that mean events, after the configuration and some events
abbrev Later : ℕ → List Text → Text → Type 0
Later n lines rest = (machine : Machine) (names : List Text) (count : ℕ) (events : List Event) → events_from names n (map line_of lines) rest ≡ Means events → count + length events ≤ most_entries
    → live_from n (Runs machine names count) lines rest ≡ replies_text (machine_replies machine events)

-- a turn, and then the answers to the lines after it
abbrev live_then : ℕ → List Text → Text → Turn → Text
live_then n lines rest taken = taken.text ++ live_from n taken.live lines rest

-- the lines after the configuration
after : (lines : List Text) (n : ℕ) (machine : Machine) (names : List Text) (count : ℕ) (rest : Text) (events : List Event) → events_from names n (map line_of lines) rest ≡ Means events → count + length events ≤ most_entries
    → live_from n (Runs machine names count) lines rest ≡ replies_text (machine_replies machine events)
after [] n machine names count [] events e few = go events e where
  go : (events : List Event) → Means [] ≡ Means events → [] ≡ replies_text (machine_replies machine events)
  go [] e = sym (replies_none machine)
  go (first ∷ events) e = cc
after [] n machine names count (byte ∷ rest) events e few = absurd (bad-means e)
after (line ∷ lines) n machine names count rest events e few = by_line (λ m ns k es. after lines (suc n) m ns k rest es) (line_of line) refl e where
  by_event : Later (suc n) lines rest → (first : Event) (seen : List Text) → turn n (Runs machine names count) line ≡ event_turn machine names count seen first → with_event first (events_from seen (suc n) (map line_of lines) rest) ≡ Means events
      → live_then (suc n) lines rest (turn n (Runs machine names count) line) ≡ replies_text (machine_replies machine events)
  by_event later first seen is e =
      let all = begins first (events_from seen (suc n) (map line_of lines) rest) events e in
      let count_is : suc (length all.later) ≡ length events = ap length all.whole in
      let below : count < most_events = fewer (omega (arith, few, count_is)) in
      let rest_is = later (event_step machine first).state seen (suc count) all.later all.is (omega (arith, few, count_is)) in
      ap (live_then (suc n) lines rest) (is ∙ event_first machine names seen count first below)
      ∙ ap (λ (t : Text). line_text (reply_text (event_step machine first).reply) ++ t) rest_is
      ∙ sym (replies_first machine first all.later) ∙ ap (λ es. replies_text (machine_replies machine es)) all.whole

  by_line : Later (suc n) lines rest → (says : Line) → line_of line ≡ says → events_from names n (says ∷ map line_of lines) rest ≡ Means events → live_then (suc n) lines rest (turn n (Runs machine names count) line) ≡ replies_text (machine_replies machine events)
  by_line later Blank is e = ap (live_then (suc n) lines rest) (turn_by n machine names count line Blank is) ∙ later machine names count events e few
  by_line later (Calls name command) is e = by_event later (Event.Session (session_number names name) command) (with_name names name) (turn_by n machine names count line (Calls name command) is) e
  by_line later (Asks control) is e = by_event later (Event.Control control) names (turn_by n machine names count line (Asks control) is) e
  by_line later Wrong is e = absurd (bad-means e)

-- Before the configuration -------------------------------------------------------------------------

-- what a configuration and the lines after it mean
record Configured (config : Config) (inner : Reading (List Event)) (script : Meaning) : Type 0 where
  events : List Event
  is : inner ≡ Means events
  whole : record { config = config; events = events } ≡ script

configured : (config : Config) (inner : Reading (List Event)) (script : Meaning) → reading_map (λ events. record { config = config; events = events }) inner ≡ Means script → Configured config inner script
configured config (BadLine n) script e = absurd (bad-means e)
configured config (Means events) script e = record { events = events; is = refl; whole = means-same e } where
  means-same : Means (record { config = config; events = events }) ≡ Means script → record { config = config; events = events } ≡ script
  means-same e = cc

blank_waits : (n : ℕ) (line : Text) → is_blank line ≡ true → turn n Waits line ≡ record { text = []; live = Waits }
unfolding turn
blank_waits n line blank = rw blank refl

opens : (n : ℕ) (line : Text) (config : Config) → is_blank line ≡ false → config_words (words line) ≡ Some config → turn n Waits line ≡ record { text = []; live = Runs (first_machine config) [] 0 }
unfolding turn
opens n line config some found = rw (some, found) refl

abbrev RunReplies : Meaning → Text
RunReplies script = replies_text (machine_replies (first_machine script.config) script.events)

before : (lines : List Text) (n : ℕ) (rest : Text) (script : Meaning) → script_from n lines rest ≡ Means script → length script.events ≤ most_entries → live_from n Waits lines rest ≡ RunReplies script
before [] n rest script e few = absurd (bad-means e)
before (line ∷ lines) n rest script e few = by_blank (λ read. before lines (suc n) rest script read few) (is_blank line) refl e where
  by_config : (found : Option Config) → config_words (words line) ≡ found → is_blank line ≡ false → after_config found n lines rest ≡ Means script → live_then (suc n) lines rest (turn n Waits line) ≡ RunReplies script
  by_config None is some e = absurd (bad-means e)
  by_config (Some config) is some e =
      let all = configured config (events_from [] (suc n) (map line_of lines) rest) script e in
      let few_here : 0 + length all.events ≤ most_entries = subst (λ s. 0 + length s.events ≤ most_entries) (sym all.whole) (omega (arith, few)) in
      ap (live_then (suc n) lines rest) (opens n line config some is) ∙ after lines (suc n) (first_machine config) [] 0 rest all.events all.is few_here ∙ ap RunReplies all.whole

  by_blank : (script_from (suc n) lines rest ≡ Means script → live_from (suc n) Waits lines rest ≡ RunReplies script) → (blank : Bool) → is_blank line ≡ blank → (if blank then script_from (suc n) lines rest else after_config (config_words (words line)) n lines rest) ≡ Means script → live_then (suc n) lines rest (turn n Waits line) ≡ RunReplies script
  by_blank later true is e = ap (live_then (suc n) lines rest) (blank_waits n line is) ∙ later e
  by_blank later false is e = by_config (config_words (words line)) refl is e

-- The law ------------------------------------------------------------------------------------------

script-means : (long : Bool) (text : Text) (script : Meaning) → (if long then BadLine 0 else script_of (cut_after 10 text)) ≡ Means script → script_of (cut_after 10 text) ≡ Means script
script-means true text script e = absurd (bad-means e)
script-means false text script e = e

reading-means : (text : Text) (script : Meaning) → reading text ≡ Means script → script_of (cut_after 10 text) ≡ Means script
unfolding reading
reading-means text script e = script-means (nat_lt 67108864 (length text)) text script e

output-means : (text : Text) (script : Meaning) → reading text ≡ Means script → length script.events ≤ most_entries → output text ≡ RunReplies script
unfolding output
output-means text script e few = ap output_of e ∙ ap (λ es. replies_text (machine_replies (first_machine script.config) es)) (take_all most_entries script.events few)

pub answered_as_run : ScriptsAreAnsweredAsRun
unfolding live_output
answered_as_run text script e few = before (cut_after 10 text).pieces 1 (cut_after 10 text).rest script (reading-means text script e) few ∙ sym (output-means text script e few)

-- Each text has answers ----------------------------------------------------------------------------

-- the turns of lines, and what is then
record HasTurns (n : ℕ) (live : Live) (lines : List Text) (rest : Text) : Type 0 where
  answers : Text
  after_them : Live
  turns : AreTurns n live lines answers after_them
  whole : live_from n live lines rest ≡ answers ++ unended_text (n + length lines) rest

has_turns : (lines : List Text) (n : ℕ) (live : Live) (rest : Text) → HasTurns n live lines rest
has_turns [] n live rest = record { answers = []; after_them = live; turns = Ended n live; whole = ap (λ k. unended_text k rest) (omega arith) }
has_turns (line ∷ lines) n live rest =
    let first = turn n live line in
    let more = has_turns lines (suc n) first.live rest in
    record {
      answers = first.text ++ more.answers;
      after_them = more.after_them;
      turns = Turned n live line lines first more.answers more.after_them Taken more.turns;
      whole = ap (λ (t : Text). first.text ++ t) (more.whole ∙ ap (λ k. more.answers ++ unended_text k rest) (omega arith)) ∙ sym (append_assoc first.text more.answers (unended_text (n + suc (length lines)) rest));
    }

pub have_answers : TextsHaveAnswers
unfolding live_output
have_answers opened text =
    let all = has_turns (cut_after 10 text).pieces 1 opened (cut_after 10 text).rest in
    record {
      answers = all.answers;
      after = all.after_them;
      turns = all.turns;
      whole = all.whole ∙ ap (λ k. all.answers ++ unended_text k (cut_after 10 text).rest) (omega arith);
    }
