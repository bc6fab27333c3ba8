-- The turn of a line by what it says.
use Rattle.std.proofs.Common.{◌≡◌, ◌∙◌, ◌≤◌, ◌<◌, ℕ, if◌then◌else◌, ◌&&◌, ◌||◌, nat_lt, Bool, true, false, Option, Some, None, List, [], ◌∷◌, length, refl, sym, ap, subst, arith}
use Rattle.std.proofs.{lemmas.Bool.{false≢true, and_parts, lt-ltb, ltb-true}, lemmas.Bool.Decides.nat_tests}
use Rattle.std.specs.{Prelude.{codes, is_none}, List.list_all}
use Rattle.mh_model.specs.{declared.command.Command.Command, declared.command.Control.Control}
use Rattle.mh_model.specs.{declared.command.Event.Event, declared.config.Config.Config}
use Rattle.mh_model.specs.Bytes.{Text, is_digit, is_letter, is_name, is_text, line_text, words}
use Rattle.mh_model.specs.{Forms.{command_of, control_of}, declared.history.Version.TheVariants.Two, Limits.most_events}
use Rattle.mh_model.specs.{declared.reply.Reply.Reply, World.{IsNew, never_full, refusal, says, sight_of}}
use Rattle.mh_model.specs.Machine.{Machine, control_step, dump_pages, event_step, first_machine}
use Rattle.mh_model.specs.Replies.{bad_line_text, reply_text}
use Rattle.mh_model.specs.Script.{Line, Blank, Calls, Asks, Wrong, asks, calls, config_words, is_blank, line_of, line_words, session_number, with_name}
use Rattle.mh_model.specs.Live.{Live, Grows, IsTurn, Runs, Taken, Turn, Waits, event_turn, makes_object, needs_memory, line_turn, turn, world_turn, Starved as starved}
use Rattle.mh_machine.specs.{Running.{Running, Does, MayAskForMemory, first_running}, declared.machine.Stop.Stop}
use Rattle.mh_machine.specs.declared.machine.Stop.TheVariants.{HistoryFull, NoMemory}
use Rattle.mh_live.specs.Auxiliary.{Done, Full, FullWorld, Grew, Starved, StarvedWorld, IsAnsweredOrNotDone, IsAnsweredOrNotGrown, uncollected_line}
use Rattle.mh_live.specs.{Answers.{full_line, starved_line}, Worlds.Grown, Heard.is_configured}
use Rattle.mh_reasons.specs.Reasons.{IsWrong}

-- a turn, in other words
taken : (n : ℕ) (live : Live) (line : Text) (is : Turn) → turn n live line ≡ is → IsTurn n live line is
taken n live line is same = subst (λ t. IsTurn n live line t) same Taken

not_below : (n most : ℕ) → n ≡ most → nat_lt n most ≡ false
not_below n most same = grind (arith, nat_tests)

wrong-calls : {name : Text} {said : Command} → Wrong ≡ Calls name said → ⊥
wrong-calls e = cc

blank-calls : {name : Text} {said : Command} → Blank ≡ Calls name said → ⊥
blank-calls e = cc

asks-calls : {name : Text} {said : Command} (control : Option Control) → asks control ≡ Calls name said → ⊥
asks-calls None e = wrong-calls e
asks-calls (Some control) e = cc

-- Before the configuration -----------------------------------------------------------------------

blank_turn : (n : ℕ) (live : Live) (line : Text) → is_blank line ≡ true → turn n live line ≡ record { text = []; live = live }
unfolding turn
blank_turn n Waits line blank = rw blank refl
blank_turn n other line blank = rw blank refl

refused_turn : (n : ℕ) (line : Text) → is_blank line ≡ false → config_words (words line) ≡ None → turn n Waits line ≡ record { text = line_text (bad_line_text n); live = Waits }
unfolding turn
refused_turn n line some none = rw (some, none) refl

opened_turn : (n : ℕ) (line : Text) (config : Config) → is_blank line ≡ false → config_words (words line) ≡ Some config → turn n Waits line ≡ record { text = []; live = Runs (first_machine config) [] 0 }
unfolding turn
opened_turn n line config some found = rw (some, found) refl

pub blank_line : (n : ℕ) (live : Live) (line text : Text) → is_blank line ≡ true → text ≡ [] → IsTurn n live line (record { text = text; live = live })
blank_line n live line text blank none = taken n live line _ (rw none (blank_turn n live line blank))

pub refused_waits : (n : ℕ) (line text : Text) → is_blank line ≡ false → config_words (words line) ≡ None → text ≡ line_text (bad_line_text n) → IsTurn n Waits line (record { text = text; live = Waits })
refused_waits n line text some none is = taken n Waits line _ (rw is (refused_turn n line some none))

pub opened_waits : (n : ℕ) (line text : Text) (config : Config) (running : Running) → is_blank line ≡ false → config_words (words line) ≡ Some config → text ≡ [] → running ≡ first_running config
    → IsTurn n Waits line (record { text = text; live = Runs running.machine [] running.done })
opened_waits n line text config running some found none first = taken n Waits line _ (rw (none, first) (opened_turn n line config some found))

pub starved_waits : (n : ℕ) (line text : Text) (config : Config) → is_blank line ≡ false → config_words (words line) ≡ Some config → text ≡ starved_line → IsTurn n Waits line (record { text = text; live = Waits })
starved_waits n line text config some found is = rw is (starved (rw (some, found) refl))

-- Lines that aren't outside the grammar ----------------------------------------------------------

blank-wrong : Blank ≡ Wrong → ⊥
blank-wrong e = cc

asks-wrong : {control : Control} → Asks control ≡ Wrong → ⊥
asks-wrong e = cc

calls-wrong : {name : Text} {said : Command} → Calls name said ≡ Wrong → ⊥
calls-wrong e = cc

pub blank_right : (live : Live) (line : Text) → is_blank line ≡ true → ¬ IsWrong (is_configured live) line
blank_right Waits line blank wrong = false≢true (sym wrong.0 ∙ blank)
blank_right (Runs machine names count) line blank wrong = blank-wrong (rw blank at wrong)
blank_right (Grows world names count) line blank wrong = blank-wrong (rw blank at wrong)

pub config_right : (line : Text) (config : Config) → config_words (words line) ≡ Some config → ¬ IsWrong false line
config_right line config found wrong = some-none (sym found ∙ wrong.1) where
  some-none : Some config ≡ None → ⊥
  some-none e = cc

pub blank_says : (line : Text) → line_of line ≡ Blank → ¬ IsWrong true line
blank_says line is wrong = blank-wrong (sym is ∙ wrong)

pub asks_says : (line : Text) (control : Control) → line_of line ≡ Asks control → ¬ IsWrong true line
asks_says line control is wrong = asks-wrong (sym is ∙ wrong)

pub calls_says : (line name : Text) (said : Command) → line_of line ≡ Calls name said → ¬ IsWrong true line
calls_says line name said is wrong = calls-wrong (sym is ∙ wrong)

-- After it ---------------------------------------------------------------------------------------

-- a control that may ask for memory is one for which the line needs it
control_asks : (says : Control) (room : ℕ) → MayAskForMemory room (Event.Control says) → needs_memory (Asks says) ≡ true
control_asks Control.Quantum room asks = refl
control_asks Control.Dump room asks = refl
control_asks asked room asks = absurd asks

module _ (n : ℕ) (old : Running) (names : List Text) (line : Text) where
  abbrev before : Live
  before = Runs old.machine names old.done

  by_line : (says : Line) → line_of line ≡ says → turn n before line ≡ line_turn n old.machine names old.done says
  unfolding turn
  by_line says is = ap (line_turn n old.machine names old.done) is

  pub blank_runs : (text : Text) → line_of line ≡ Blank → text ≡ [] → IsTurn n before line (record { text = text; live = before })
  blank_runs text is none = taken n before line _ (rw none (by_line Blank is))

  pub wrong_runs : (text : Text) → line_of line ≡ Wrong → text ≡ line_text (bad_line_text n) → IsTurn n before line (record { text = text; live = before })
  wrong_runs text is same = taken n before line _ (rw same (by_line Wrong is))

  -- an event that was answered, with the names that are seen if it was done
  module _ (says : Line) (is : line_of line ≡ says) (event : Event) (seen : List Text) (turns : line_turn n old.machine names old.done says ≡ event_turn old.machine names old.done seen event) where
    by_event : turn n before line ≡ event_turn old.machine names old.done seen event
    by_event = by_line says is ∙ turns

    pub event_runs : (new : Running) (text : Text) (is_done : Bool) (after : List Text) → (MayAskForMemory old.room event → needs_memory says ≡ true) → IsAnsweredOrNotDone old event text new is_done → after ≡ (if is_done then seen else names)
        → IsTurn n before line (record { text = text; live = Runs new.machine after new.done })
    event_runs new text _ after has (Done reply below does same) named = taken n before line _ (by_event ∙ rw (lt-ltb old.done most_events below, does.step, same, does.done, named) refl)
    event_runs new text _ after has (Full full same kept) named = taken n before line _ (by_event ∙ rw (not_below old.done most_events full, same, kept, named) refl)
    event_runs new text _ after has (Starved asks same kept) named = rw (same, kept, named) (starved (rw is (has asks)))

  pub asks_runs : (control : Control) (new : Running) (text : Text) (is_done : Bool) → line_of line ≡ Asks control → IsAnsweredOrNotDone old (Event.Control control) text new is_done
      → IsTurn n before line (record { text = text; live = Runs new.machine names new.done })
  asks_runs control new text is_done is answered = event_runs (Asks control) is (Event.Control control) names refl new text is_done names (control_asks control old.room) answered (same_either is_done) where
    same_either : (b : Bool) → names ≡ (if b then names else names)
    same_either true = refl
    same_either false = refl

  pub calls_runs : (name : Text) (command : Command) (new : Running) (text : Text) (is_done : Bool) (after : List Text) → line_of line ≡ Calls name command → IsAnsweredOrNotDone old (Event.Session (session_number names name) command) text new is_done
      → after ≡ (if is_done then with_name names name else names) → IsTurn n before line (record { text = text; live = Runs new.machine after new.done })
  calls_runs name command new text is_done after is = event_runs (Calls name command) is (Event.Session (session_number names name) command) (with_name names name) refl new text is_done after (λ _. refl)

-- In a world ------------------------------------------------------------------------------------

not_under : (n most : ℕ) → most ≤ n → nat_lt n most ≡ false
not_under n most above = grind (arith, nat_tests)

module _ (n : ℕ) (old : Grown) (names : List Text) (line : Text) where
  abbrev world_before : Live
  world_before = Grows old.world names old.done

  by_world_line : (says : Line) → line_of line ≡ says → turn n world_before line ≡ world_turn n old.world names old.done says
  unfolding turn
  by_world_line says is = ap (world_turn n old.world names old.done) is

  pub blank_grows : (text : Text) → line_of line ≡ Blank → text ≡ [] → IsTurn n world_before line (record { text = text; live = world_before })
  blank_grows text is none = taken n world_before line _ (rw none (by_world_line Blank is))

  pub wrong_grows : (text : Text) → line_of line ≡ Wrong → text ≡ line_text (bad_line_text n) → IsTurn n world_before line (record { text = text; live = world_before })
  wrong_grows text is same = taken n world_before line _ (rw same (by_world_line Wrong is))

  pub asks_grows : (control : Control) (text : Text) → line_of line ≡ Asks control → text ≡ uncollected_line → IsTurn n world_before line (record { text = text; live = world_before })
  asks_grows control text is same = taken n world_before line _ (rw same (by_world_line (Asks control) is))

  -- memory is refused for a new object alone
  makes : (name : Text) (said : Command) → IsNew said → refusal (sight_of never_full old.world) (session_number names name) said ≡ None → makes_object old.world names (Calls name said) ≡ true
  makes name (Command.New slot references numbers) new none = ap is_none none
  makes name asked new none = absurd new

  pub calls_grows : (name : Text) (said : Command) (new : Grown) (text : Text) (is_done : Bool) (after : List Text) → line_of line ≡ Calls name said → IsAnsweredOrNotGrown old (session_number names name) said text new is_done
      → after ≡ (if is_done then with_name names name else names) → IsTurn n world_before line (record { text = text; live = Grows new.world after new.done })
  calls_grows name said new text _ after is (Grew given grows same) named =
      taken n world_before line _ (by_world_line (Calls name said) is ∙ rw (lt-ltb old.done most_events grows.room, grows.does, same, grows.done, named) refl)
  calls_grows name said new text _ after is (FullWorld full same kept) named = taken n world_before line _ (by_world_line (Calls name said) is ∙ rw (not_under old.done most_events full, same, kept, named) refl)
  calls_grows name said new text _ after is (StarvedWorld makes_new none same kept) named = rw (same, kept, named) (starved (rw is (makes name said makes_new none)))

-- A dump's reply is what the machine shows, whatever step it is asked in ---------------------------

dump_reply : (machine new : Machine) (given : Reply) → event_step machine (Event.Control Control.Dump) ≡ says given new → Reply.Dump (dump_pages 0 machine.heap.collector.table) ≡ given
unfolding event_step control_step
dump_reply machine new given e = ap (λ answer. answer.reply) e

pub dump_done : (old new : Running) (given : Reply) (text : Text) → old.done < most_events → Does old (Event.Control Control.Dump) given new
    → text ≡ line_text (reply_text (Reply.Dump (dump_pages 0 old.machine.heap.collector.table))) → IsAnsweredOrNotDone old (Event.Control Control.Dump) text new true
dump_done old new given text below does is = Done given below does (is ∙ ap (λ r. line_text (reply_text r)) (dump_reply old.machine new.machine given does.step))

-- An event that isn't done -------------------------------------------------------------------------

pub undone : (old new : Running) (event : Event) (text : Text) (stop : Stop) → (stop ≡ HistoryFull → old.done ≡ most_events) → (stop ≡ NoMemory → MayAskForMemory old.room event) → (stop ≡ HistoryFull → text ≡ full_line) → (stop ≡ NoMemory → text ≡ starved_line) → new ≡ old
    → IsAnsweredOrNotDone old event text new false
undone old new event text HistoryFull full memory says_full says_memory kept = Full (full refl) (says_full refl) kept
undone old new event text NoMemory full memory says_full says_memory kept = Starved (memory refl) (says_memory refl) kept

pub ungrown : (old new : Grown) (who : ℕ) (command : Command) (text : Text) (stop : Stop) → (stop ≡ HistoryFull → most_events ≤ old.done) → (stop ≡ NoMemory → IsNew command) → (stop ≡ NoMemory → refusal (sight_of never_full old.world) who command ≡ None)
    → (stop ≡ HistoryFull → text ≡ full_line) → (stop ≡ NoMemory → text ≡ starved_line) → new ≡ old → IsAnsweredOrNotGrown old who command text new false
ungrown old new who command text HistoryFull full memory asked says_full says_memory kept = FullWorld (full refl) (says_full refl) kept
ungrown old new who command text NoMemory full memory asked says_full says_memory kept = StarvedWorld (memory refl) (asked refl) (says_memory refl) kept

-- Names ------------------------------------------------------------------------------------------

short-name : (name : Text) → is_name name ≡ true → length name ≤ 16
short-name [] is = omega arith
short-name (byte ∷ bytes) is =
    let rest : (list_all (λ c. is_letter c || is_digit c) bytes && nat_lt (length bytes) 16) ≡ true = (and_parts (is_letter byte) _ is).1 in
    let short : length bytes < 16 = ltb-true (length bytes) 16 (and_parts (list_all (λ c. is_letter c || is_digit c) bytes) (nat_lt (length bytes) 16) rest).1 in
    omega (arith, short)

calls-name : (named : Bool) (word : Text) (command : Option Command) (name : Text) (said : Command) → calls named word command ≡ Calls name said → (named ≡ true → length word ≤ 16) → length name ≤ 16
calls-name true word (Some command) name said e short = let same : word ≡ name = cc in subst (λ (t : Text). length t ≤ 16) same (short refl)
calls-name true word None name said e short = absurd (wrong-calls e)
calls-name false word command name said e short = absurd (wrong-calls e)

pub line-name : (line name : Text) (said : Command) → line_of line ≡ Calls name said → length name ≤ 16
line-name line name said = by_blank (is_blank line) where
  by_words : (parts : List Text) → line_words parts ≡ Calls name said → length name ≤ 16
  by_words [] e = absurd (wrong-calls e)
  by_words (word ∷ parts) e = by_star (is_text word (codes "*")) e where
    by_star : (star : Bool) → (if star then asks (control_of Two parts) else calls (is_name word) word (command_of parts)) ≡ Calls name said → length name ≤ 16
    by_star true e = absurd (asks-calls (control_of Two parts) e)
    by_star false e = calls-name (is_name word) word (command_of parts) name said e (short-name word)

  by_blank : (blank : Bool) → (if blank then Blank else line_words (words line)) ≡ Calls name said → length name ≤ 16
  by_blank true e = absurd (blank-calls e)
  by_blank false e = by_words (words line) e
