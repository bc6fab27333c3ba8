-- How events and lines end, in other words.
use Rattle.std.proofs.Common.{◌≡◌, ◌∙◌, ℕ, true, false, is_some, Option, Some, None, List, refl, sym, subst, ap}
use Rattle.std.proofs.lemmas.Option.{none-some}
use Rattle.mh_model.specs.{declared.command.Command.Command, declared.command.Control.Control}
use Rattle.mh_model.specs.{declared.command.Event.Event, declared.reply.Reply.Reply, Bytes.Text}
use Rattle.mh_model.specs.Script.{Line, Calls, Asks, session_number, with_name}
use Rattle.mh_embed.specs.{declared.driver.Driver.Driver, declared.driver.Driver.TheVariants.Grows}
use Rattle.mh_embed.specs.{declared.numbers.ReplyNumbers.ReplyNumbers, declared.status.Status.Status}
use Rattle.mh_embed.specs.Driving.{Driven, Takes, IsOfWorld, IsUndone, FullMachine}
use Rattle.mh_embed.specs.Endings.{EventEnds, Done, Undone, LineEnds, Has, ReplyEnds, Shown, NoneYet}
use Rattle.mh_embed.specs.Numbers.{IsShownBy}
use Rattle.mh_live.specs.{Promised.{line_event, names_after}, Worlds.Grown}

abbrev numbered : ℕ → List ℕ → ReplyNumbers
numbered kind numbers = record { kind = kind; numbers = numbers }

never-done : (driver : Driver) (event : Event) (ends : Status) → ends ≡ Status.Done → IsUndone driver event ends → ⊥
never-done _ _ _ is (FullMachine old event full) = cc
never-done _ _ _ is other = cc

pub is_world : (driver : Driver) (grown : Grown) → driver ≡ Grows grown → IsOfWorld driver
is_world driver grown is = rw is tt

-- what is there, and what isn't
pub some_of : {X : Type 0} (given : Option X) → is_some given ≡ true → (x : X) × (given ≡ Some x)
some_of None is = cc
some_of (Some x) is = (x, refl)

pub none_of : {X : Type 0} (given : Option X) → is_some given ≡ false → given ≡ None
none_of None is = refl
none_of (Some x) is = cc

-- what an event that is done leaves
pub record IsAnswered (old : Driven) (event : Event) (seen : List Text) (new : Driven) : Type 0 where
  pub given : Reply
  pub takes : Takes old.driver event given new.driver
  pub reply : new.reply ≡ Some given
  pub names : new.names ≡ seen

module _ (old : Driven) (event : Event) (seen : List Text) (new : Driven) where
  pub answered : (ends : Status) → ends ≡ Status.Done → EventEnds old event seen new ends → IsAnswered old event seen new
  answered _ is (Done given takes reply names) = record { given = given; takes = takes; reply = reply; names = names }
  answered _ is (Undone ends undone kept) = absurd (never-done old.driver event ends is undone)

  -- its reply can be shown
  pub shown_after : (ends shows : Status) (left right : ReplyNumbers) → ends ≡ Status.Done → EventEnds old event seen new ends → ReplyEnds new.reply left right shows → (given : Reply) × (new.reply ≡ Some given) × IsShownBy given right
  shown_after ends shows left right is done (Shown given some is_shown) = (given, some, is_shown)
  shown_after ends shows left right is done (NoneYet none kept) =
      let answers : IsAnswered old event seen new = answered ends is done in
      absurd (none-some answers.given (sym none ∙ answers.reply))

  -- what isn't done leaves the names, whichever would have been seen
  undone_so : (ends : Status) (other : List Text) → (ends ≡ Status.Done → ⊥) → EventEnds old event seen new ends → EventEnds old event other new ends
  undone_so _ other not_done (Done given takes reply names) = absurd (not_done refl)
  undone_so _ other not_done (Undone ends undone kept) = Undone ends undone kept

-- the numbers of a reply are no others
same-numbers : (k l : ℕ) (ms ns : List ℕ) → k ≡ l → ms ≡ ns → numbered k ms ≡ numbered l ns
same-numbers k l ms ns kind numbers = rw (kind, numbers) refl

pub shown_once : (given : Reply) (left right : ReplyNumbers) → IsShownBy given left → IsShownBy given right → left ≡ right
shown_once given left right is other = same-numbers left.kind right.kind left.numbers right.numbers (is.kind ∙ sym other.kind) (is.numbers ∙ sym other.numbers)

-- a line ends as the event that it has
has_ends : (old : Driven) (line : Line) (event : Event) (seen : List Text) (new : Driven) (ends : Status) → line_event old.names line ≡ Some event → names_after old.names line ≡ seen
    → EventEnds old event seen new ends → LineEnds old line new ends
has_ends old line event seen new ends of_line after is = Has event ends of_line (subst (λ names. EventEnds old event names new ends) (sym after) is)

pub asks_ends : (old : Driven) (line : Line) (control : Control) (new : Driven) (ends : Status) → line ≡ Asks control → EventEnds old (Event.Control control) old.names new ends → LineEnds old line new ends
asks_ends old line control new ends is = has_ends old line (Event.Control control) old.names new ends (ap (line_event old.names) is) (ap (names_after old.names) is)

module _ (old : Driven) (line : Line) (name : Text) (command : Command) (is : line ≡ Calls name command) (who : ℕ) (number : who ≡ session_number old.names name) (new : Driven) (ends : Status) where
  asked : line_event old.names line ≡ Some (Event.Session who command)
  asked = rw number (ap (line_event old.names) is)

  after : names_after old.names line ≡ with_name old.names name
  after = ap (names_after old.names) is

  -- a command that is done, after which its name has been seen
  pub calls_done : (seen : Driven) → ends ≡ Status.Done → seen.driver ≡ new.driver → seen.reply ≡ new.reply → seen.names ≡ with_name new.names name
      → EventEnds old (Event.Session who command) old.names new ends → LineEnds old line seen Status.Done
  calls_done seen done driver reply names event =
      let answers : IsAnswered old (Event.Session who command) old.names new = answered old (Event.Session who command) old.names new ends done event in
      has_ends old line (Event.Session who command) (with_name old.names name) seen Status.Done asked after
      (Done answers.given (rw driver answers.takes) (rw reply answers.reply) (rw (names, answers.names) refl))

  pub calls_undone : (ends ≡ Status.Done → ⊥) → EventEnds old (Event.Session who command) old.names new ends → LineEnds old line new ends
  calls_undone not_done event =
      has_ends old line (Event.Session who command) (with_name old.names name) new ends asked after
      (undone_so old (Event.Session who command) old.names new ends (with_name old.names name) not_done event)
