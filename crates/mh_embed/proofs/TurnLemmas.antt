-- A line whose event is done, in a run line by line.
use Rattle.std.proofs.{Common.{◌≡◌, ◌∙◌, ℕ, Some, List, refl, sym, ap}, lemmas.Bool.lt-ltb}
use Rattle.std.specs.Prelude.{codes}
use Rattle.mh_model.specs.{declared.command.Event.Event, declared.reply.Reply.Reply, Bytes.Text, Limits.most_events}
use Rattle.mh_model.specs.Live.{Turn, answers_line, command_turn, event_turn, line_turn, turn, world_turn}
use Rattle.mh_model.specs.{Replies.reply_text, Script.{Line, Blank, Calls, Asks, Wrong, line_of, session_number}}
use Rattle.mh_live.specs.Promised.{line_event, names_after}
use Rattle.mh_embed.specs.{declared.status.Status.Status, declared.driver.Driver.Driver}
use Rattle.mh_embed.specs.declared.driver.Driver.TheVariants.{Collects, Grows}
use Rattle.mh_embed.specs.{Driving.{ByMachine, ByWorld, Driven, Takes}, Endings.{LineEnds, Has}}
use Rattle.mh_embed.specs.Laws.{LinesAreTurns, live_with}
use Rattle.mh_embed.proofs.EndingLemmas.{IsAnswered, answered}
use Rattle.mh_model.specs.Live as model

same_Some : (x y : Reply) → Some x ≡ Some y → x ≡ y
same_Some x y e = cc

-- the turn of a line by what it says, and of its event with the names that are seen then
abbrev said_turn : ℕ → List Text → Driver → Line → Turn
said_turn n names (Collects run) says = line_turn n run.machine.machine names run.machine.done says
said_turn n names (Grows run) says = world_turn n run.world names run.done says

abbrev done_turn : List Text → List Text → Driver → Event → Turn
done_turn names seen (Collects run) event = event_turn run.machine.machine names run.machine.done seen event
done_turn names seen (Grows run) (Event.Session who said) = command_turn run.world names run.done seen who said
done_turn names seen (Grows run) (Event.Control control) = answers_line (codes "refused 11 no collector") (model.Grows run.world names run.done)

turn_said : (n : ℕ) (names : List Text) (driver : Driver) (line : Text) → turn n (live_with names driver) line ≡ said_turn n names driver (line_of line)
unfolding turn
turn_said n names (Collects run) line = refl
turn_said n names (Grows run) line = refl

taken_turn : (names seen : List Text) (old new : Driver) (event : Event) (given : Reply) → Takes old event given new → done_turn names seen old event ≡ answers_line (reply_text given) (live_with seen new)
taken_turn names seen _ _ _ _ (ByMachine old event given new does) = rw (lt-ltb old.machine.done most_events does.room, (does.does).step, (does.does).done) refl
taken_turn names seen _ _ _ _ (ByWorld old who said given new does) = rw (lt-ltb old.done most_events does.room, does.does, does.done) refl

said_done : (n : ℕ) (names : List Text) (driver : Driver) (says : Line) (event : Event) → line_event names says ≡ Some event → said_turn n names driver says ≡ done_turn names (names_after names says) driver event
said_done n names driver Blank event is = cc
said_done n names driver Wrong event is = cc
said_done n names (Collects run) (Calls name said) event is = let same : Event.Session (session_number names name) said ≡ event = cc in rw (← same) refl
said_done n names (Grows run) (Calls name said) event is = let same : Event.Session (session_number names name) said ≡ event = cc in rw (← same) refl
said_done n names (Collects run) (Asks control) event is = let same : Event.Control control ≡ event = cc in rw (← same) refl
said_done n names (Grows run) (Asks control) event is = let same : Event.Control control ≡ event = cc in rw (← same) refl

by_end : (n : ℕ) (old new : Driven) (given : Reply) (says : Line) (ends : Status) → ends ≡ Status.Done → LineEnds old says new ends → new.reply ≡ Some given
    → said_turn n old.names old.driver says ≡ answers_line (reply_text given) (live_with new.names new.driver)
by_end n old new given says _ done (Has event ends of_line is) last =
    let answers : IsAnswered old event (names_after old.names says) new = answered old event (names_after old.names says) new ends done is in
    let same : answers.given ≡ given = same_Some answers.given given (sym answers.reply ∙ last) in
    said_done n old.names old.driver says event of_line ∙ taken_turn old.names (names_after old.names says) old.driver new.driver event answers.given answers.takes
    ∙ ap (λ (reply : Reply). answers_line (reply_text reply) (live_with (names_after old.names says) new.driver)) same
    ∙ ap (λ (names : List Text). answers_line (reply_text given) (live_with names new.driver)) (sym answers.names)
by_end n old new given says _ done _ last = cc

pub are_turns : LinesAreTurns
are_turns number line old new given ends last = turn_said number old.names old.driver line ∙ by_end number old new given (line_of line) Status.Done refl ends last
