-- The answers to lines, in turn, keep the promise.
use Rattle.std.proofs.Common.{◌≡◌, ◌∙◌, ◌≤◌, ◌<◌, inl, inr, ℕ, suc, ◌+◌, if◌then◌else◌, nat_lt, Bool, true, false, ◌&&◌, not, is_some, Option, Some, None, List, [], ◌∷◌, ◌++◌, length, refl, sym, ap, subst, arith}
use Rattle.std.proofs.{lemmas.Bool.Decides.nat_tests, lemmas.List.append-nil}
use Rattle.std.specs.{Io.KnownBytes.{Appends, Consumes}, Prelude.{Result, Ok, Err, IfErr, OnOk, IsErrOf}}
use Rattle.mh_model.specs.{declared.command.Event.Event, declared.config.Config.Config}
use Rattle.mh_model.specs.{Bytes.{Text, cut_after, line_text, words}, Limits.most_events}
use Rattle.mh_model.specs.Live.{AreTurns, IsTurn, Live, Runs, Starved, Taken, Turn, Turned, Waits, answers_line, config_turn, event_turn, line_turn, needs_memory, takes_memory, turn}
use Rattle.mh_model.specs.Machine.{Machine, event_step, first_machine, machine_after, machine_replies}
use Rattle.mh_model.specs.Replies.{bad_line_text, reply_text}
use Rattle.mh_model.specs.Script.{Line, Asks, Blank, Calls, Wrong, config_words, is_blank, line_of, session_number}
use Rattle.mh_promise.specs.Promise.{RepliesArePromised}
use Rattle.mh_script.specs.declared.{end.LineRefusal.LineRefusal, fault.ScriptFault.ScriptFault}
use Rattle.mh_script.specs.declared.fault.ScriptFault.TheVariants.{Read}
use Rattle.mh_live.specs.Answers.{full_line, starved_line}
use Rattle.mh_live.specs.Feeding.{AnswersAll, AnswersFront, AnswersWhole, FollowsAnswers, KeepsLivePromise}
use Rattle.mh_live.specs.Heard.{AreHeard}
use Rattle.mh_live.specs.Promised.{ArePromisedAnswers, DoesNothing, Does, Ended, LeavesWaiting, Opened, Passes, ShowReplies, Unopened, Waiting, line_event, names_after}
use Rattle.mh_live.proofs.TurnLemmas.{are_turns}
use Rattle.mh_model.specs.Live as model

-- what a machine does at lines: the events, to which its replies are shown, and where it stands then
record Shows (n : ℕ) (machine : Machine) (names : List Text) (count : ℕ) (lines : List Text) (text : Text) (after : Live) : Type 0 where
  events : List Event
  seen : List Text
  show : ShowReplies n names count lines events (machine_replies machine events) text
  stands : after ≡ Runs (machine_after machine events) seen (count + length events)

abbrev Later : List Text → Type 0
Later lines = (n : ℕ) (machine : Machine) (names : List Text) (count : ℕ) (text : Text) (after : Live) → AreTurns n (Runs machine names count) lines text after → Shows n machine names count lines text after

none_shown : (n : ℕ) (machine : Machine) (names : List Text) (count : ℕ) → Shows n machine names count [] [] (Runs machine names count)
unfolding machine_replies machine_after
none_shown n machine names count = record { events = []; seen = names; show = Ended n names count; stands = ap (Runs machine names) (omega arith) }

module _ (n : ℕ) (machine : Machine) (names : List Text) (count : ℕ) (line : Text) (lines : List Text) (text : Text) (after : Live) (later : Later lines) where
  -- a line that did no event
  passed : (shown : Text) → DoesNothing n count (line_of line) shown → AreTurns (suc n) (Runs machine names count) lines text after → Shows n machine names count (line ∷ lines) (shown ++ text) after
  passed shown none rest =
      let more = later (suc n) machine names count text after rest in
      record { events = more.events; seen = more.seen; show = Passes n names count line shown lines more.events _ text none more.show; stands = more.stands }

  -- a line that did one
  did : (event : Event) → line_event names (line_of line) ≡ Some event → count < most_events → AreTurns (suc n) (Runs (event_step machine event).state (names_after names (line_of line)) (suc count)) lines text after
      → Shows n machine names count (line ∷ lines) (line_text (reply_text (event_step machine event).reply) ++ text) after
  unfolding machine_replies machine_after
  did event has few rest =
      let more = later (suc n) (event_step machine event).state (names_after names (line_of line)) (suc count) text after rest in
      record {
        events = event ∷ more.events;
        seen = more.seen;
        show = Does n names count line lines event more.events (event_step machine event).reply _ text has few more.show;
        stands = more.stands ∙ ap (Runs (machine_after (event_step machine event).state more.events) more.seen) (omega arith);
      }

  module _ (says : Line) (is : line_of line ≡ says) where
    passed_by : (shown : Text) → DoesNothing n count says shown → AreTurns (suc n) (Runs machine names count) lines text after → Shows n machine names count (line ∷ lines) (shown ++ text) after
    passed_by shown none rest = passed shown (rw is none) rest

    by_event : (event : Event) → line_event names says ≡ Some event → (most_events ≤ count → DoesNothing n count says full_line) → AreTurns (suc n) (event_turn machine names count (names_after names says) event).live lines text after
        → Shows n machine names count (line ∷ lines) ((event_turn machine names count (names_after names says) event).text ++ text) after
    by_event event has none rest = go (nat_lt count most_events) refl rest where
      by : Bool → Turn
      by few = if few then answers_line (reply_text (event_step machine event).reply) (Runs (event_step machine event).state (names_after names says) (suc count)) else record { text = full_line; live = Runs machine names count }

      go : (few : Bool) → nat_lt count most_events ≡ few → AreTurns (suc n) (by few).live lines text after → Shows n machine names count (line ∷ lines) ((by few).text ++ text) after
      go true test rest = did event (rw is has) (grind (arith, nat_tests)) (rw is rest)
      go false test rest = passed_by full_line (none (grind (arith, nat_tests))) rest

  -- a line by what it says
  by_line : (says : Line) → line_of line ≡ says → AreTurns (suc n) (line_turn n machine names count says).live lines text after → Shows n machine names count (line ∷ lines) ((line_turn n machine names count says).text ++ text) after
  by_line Blank is rest = passed_by Blank is [] refl rest
  by_line Wrong is rest = passed_by Wrong is (line_text (bad_line_text n)) refl rest
  by_line (Calls name said) is rest = by_event (Calls name said) is (Event.Session (session_number names name) said) refl (λ full. inl (full, refl)) rest
  by_line (Asks control) is rest = by_event (Asks control) is (Event.Control control) refl (λ full. inl (full, refl)) rest

  -- one for which memory was refused
  starved : (says : Line) → line_of line ≡ says → needs_memory says ≡ true → AreTurns (suc n) (Runs machine names count) lines text after → Shows n machine names count (line ∷ lines) (starved_line ++ text) after
  starved Blank is needs rest = cc
  starved Wrong is needs rest = cc
  starved (Calls name said) is needs rest = passed_by (Calls name said) is starved_line (inr (needs, refl)) rest
  starved (Asks control) is needs rest = passed_by (Asks control) is starved_line (inr (needs, refl)) rest

  by_turn : (first : Turn) → IsTurn n (Runs machine names count) line first → AreTurns (suc n) first.live lines text after → Shows n machine names count (line ∷ lines) (first.text ++ text) after
  unfolding turn
  by_turn _ Taken rest = by_line (line_of line) refl rest
  by_turn _ (Starved needs) rest = starved (line_of line) refl needs rest

shows : (lines : List Text) → Later lines
shows [] n machine names count _ _ (model.Ended _ _) = none_shown n machine names count
shows (line ∷ lines) n machine names count _ _ (Turned _ _ _ _ first text after is rest) = by_turn n machine names count line lines text after (shows lines) first is rest

-- Before the configuration -----------------------------------------------------------------------

module _ (law : RepliesArePromised) where
  abbrev Waited : List Text → Type 0
  Waited lines = (n : ℕ) (text : Text) (after : Live) → AreTurns n Waits lines text after → ArePromisedAnswers n lines text after

  module _ (n : ℕ) (line : Text) (lines : List Text) (text : Text) (after : Live) (later : Waited lines) where
    opened : (config : Config) → is_blank line ≡ false → config_words (words line) ≡ Some config → AreTurns (suc n) (Runs (first_machine config) [] 0) lines text after → ArePromisedAnswers n (line ∷ lines) text after
    opened config some is rest =
        let all = shows lines (suc n) (first_machine config) [] 0 text after rest in
        let stands : after ≡ Runs (machine_after (first_machine config) all.events) all.seen (length all.events) = all.stands ∙ ap (Runs (machine_after (first_machine config) all.events) all.seen) (omega arith) in
        rw stands (Opened n line lines text config all.events all.seen some is all.show (law config all.events _ refl))

    unopened : (shown : Text) → LeavesWaiting n line shown → AreTurns (suc n) Waits lines text after → ArePromisedAnswers n (line ∷ lines) (shown ++ text) after
    unopened shown waits rest = Unopened n line shown lines text after waits (later (suc n) text after rest)

    by_first : (first : Turn) → IsTurn n Waits line first → AreTurns (suc n) first.live lines text after → ArePromisedAnswers n (line ∷ lines) (first.text ++ text) after
    unfolding turn
    by_first _ Taken rest = go (is_blank line) refl (config_words (words line)) refl rest where
      by : Bool → Option Config → Turn
      by blank found = if blank then model.answers_nothing Waits else config_turn n found

      go : (blank : Bool) → is_blank line ≡ blank → (found : Option Config) → config_words (words line) ≡ found → AreTurns (suc n) (by blank found).live lines text after → ArePromisedAnswers n (line ∷ lines) ((by blank found).text ++ text) after
      go true blank found is rest = unopened [] (rw blank refl) rest
      go false blank None is rest = unopened (line_text (bad_line_text n)) (rw (blank, is) refl) rest
      go false blank (Some config) is rest = opened config blank is rest
    by_first _ (Starved takes) rest = go (is_blank line) refl (config_words (words line)) refl takes where
      go : (blank : Bool) → is_blank line ≡ blank → (found : Option Config) → config_words (words line) ≡ found → (not blank && is_some found) ≡ true → ArePromisedAnswers n (line ∷ lines) (starved_line ++ text) after
      go true blank found is takes = cc
      go false blank None is takes = cc
      go false blank (Some config) is takes = unopened starved_line (rw (blank, is) refl) rest

  waited : (lines : List Text) → Waited lines
  waited [] n _ _ (model.Ended _ _) = Waiting n
  waited (line ∷ lines) n _ _ (Turned _ _ _ _ first text after is rest) = by_first n line lines text after (waited lines) first is rest

  -- Runs -----------------------------------------------------------------------------------------

  module _ {opened : Live} (waits : opened ≡ Waits) where
    of_lines : {lines : List Text} {refusals : List LineRefusal} {answers : Text} {after : Live} → AreHeard 1 opened lines refusals answers after → ArePromisedAnswers 1 lines answers after
    of_lines {lines = lines} {refusals = refusals} {answers = answers} {after = after} heard = waited lines 1 answers after (are_turns (subst (λ live. AreHeard 1 live lines refusals answers after) waits heard))

    -- each line was answered
    to_the_last : {source source' sink sink' : Option Text} (ended : Result Unit ScriptFault) (text answers last : Text) (refusals : List LineRefusal) (after : Live) → Consumes source source' text → AreHeard 1 opened (cut_after 10 text).pieces refusals answers after
        → FollowsAnswers ended (suc (length (cut_after 10 text).pieces)) after [] (cut_after 10 text).rest last → Appends sink sink' (answers ++ last) → KeepsLivePromise source source' sink sink' ended
    to_the_last ended text answers last refusals after read turns follows wrote = record {
      text = text;
      read = read;
      lines = (cut_after 10 text).pieces;
      later = [];
      parts = sym (append-nil (cut_after 10 text).pieces);
      answers = answers;
      after = after;
      promise = of_lines turns;
      last = last;
      follows = follows;
      wrote = wrote;
    }

    -- however a run ends, what it answered keeps the promise
    pub keeps_live : {Hears : List LineRefusal → Type 0} {source source' sink sink' : Option Text} (ended : Result Unit ScriptFault) → OnOk ended (AnswersAll opened Hears source source' sink sink') → IfErr ended (AnswersFront opened Hears source source' sink sink') → (IsErrOf ended Read → AnswersWhole opened Hears source source' sink sink')
        → KeepsLivePromise source source' sink sink' ended
    keeps_live {sink = sink} {sink' = sink'} (Ok done) all front whole =
        let told = all.told in
        to_the_last (Ok done) all.text told.answers _ told.heard told.after all.read told.turns (refl, refl) (subst (Appends sink sink') told.whole all.wrote)
    keeps_live {sink = sink} {sink' = sink'} (Err Read) all front whole =
        let some = whole refl in
        to_the_last (Err Read) some.text some.answers [] some.refusals some.after some.read some.turns (refl, refl) (subst (Appends sink sink') (sym (append-nil some.answers)) some.wrote)
    keeps_live (Err fault) all front whole =
        let some = front.some in
        record {
          text = front.text;
          read = front.read;
          lines = some.lines;
          later = some.later;
          parts = some.parts;
          answers = some.answers;
          after = some.after;
          promise = of_lines some.turns;
          last = some.begun;
          follows = (some.begins, some.may);
          wrote = some.wrote;
        }
