-- Auxiliary definitions: what loops, private functions and the insides of types keep. No public contract depends on them.
use Rattle.std.specs.Prelude.{◌≡◌, ◌<◌, ◌≤◌, ℕ, Bool, true, false, None, codes, suc, Option, List, [], ◌∷◌, ◌++◌, length, Some}
use Rattle.std.specs.Io.KnownBytes.{Appends}
use Rattle.mh_model.specs.{declared.command.Command.Command, declared.command.Event.Event, declared.reply.Reply.Reply}
use Rattle.mh_model.specs.{Bytes.{Text, line_text, cut_after}, Limits.most_events, Live.{Live, Turn, IsTurn}}
use Rattle.mh_model.specs.{Replies.reply_text, World.{IsNew, never_full, refusal, sight_of}}
use Rattle.mh_machine.specs.Running.{Running, Does, MayAskForMemory}
use Rattle.mh_live.specs.{Worlds.{Grown, Growing}, Answers.{starved_line, full_line}, declared.feed.Feed.Feed}
use Rattle.mh_live.specs.Heard.{AreHeard, IsHeard}
use Rattle.mh_script.specs.declared.{end.LineRefusal.LineRefusal, fault.WriteError.WriteError}
use Rattle.mh_reasons.specs.declared.reason.{LineReason.LineReason, ScriptReason.TheVariants.Line}

abbrev pub uncollected_line : Text
uncollected_line = line_text (codes "refused 11 no collector")

-- an event, what it is answered, and whether it was done: else all is as it was. Memory is refused only for an event that may ask for it
pub data IsAnsweredOrNotDone (old : Running) (event : Event) (text : Text) (new : Running) : Bool → Type 0 where
  Done : (reply : Reply) → old.done < most_events → Does old event reply new → text ≡ line_text (reply_text reply) → IsAnsweredOrNotDone old event text new true
  Full : old.done ≡ most_events → text ≡ full_line → new ≡ old → IsAnsweredOrNotDone old event text new false
  Starved : MayAskForMemory old.room event → text ≡ starved_line → new ≡ old → IsAnsweredOrNotDone old event text new false

-- a command in a world, what it is answered, and whether it was done: memory is refused only for a new object that nothing else refuses
pub data IsAnsweredOrNotGrown (old : Grown) (who : ℕ) (command : Command) (text : Text) (new : Grown) : Bool → Type 0 where
  Grew : (given : Reply) → Growing old who command given new → text ≡ line_text (reply_text given) → IsAnsweredOrNotGrown old who command text new true
  FullWorld : most_events ≤ old.done → text ≡ full_line → new ≡ old → IsAnsweredOrNotGrown old who command text new false
  StarvedWorld : IsNew command → refusal (sight_of never_full old.world) who command ≡ None → text ≡ starved_line → new ≡ old → IsAnsweredOrNotGrown old who command text new false

-- the whole lines of a text were answered and the refused ones told, and what follows the last of them is kept. `opened` is where the run stood before the first line
pub record HasAnswered (opened : Live) (Hears : List LineRefusal → Type 0) (text : Text) (old new : Option Text) (number : ℕ) (live : Live) (begun : Text) : Type 0 where
  pub answers : Text
  pub refusals : List LineRefusal
  pub turns : AreHeard 1 opened (cut_after 10 text).pieces refusals answers live
  pub numbered : number ≡ suc (length (cut_after 10 text).pieces)
  pub kept : (cut_after 10 text).rest ≡ begun
  pub wrote : Appends old new answers
  pub heard : Hears refusals

-- a feed has answered the whole lines of a text, told the refused ones, and kept what follows the last of them
abbrev pub IsFed : Live → (List LineRefusal → Type 0) → Text → Option Text → Option Text → Feed → Type 0
IsFed opened Hears text first new feed = HasAnswered opened Hears text first new feed.number feed.live feed.begun.items

-- what may have been written of an answer that isn't whole: nothing, unless the sink failed
abbrev pub MayBegin : WriteError → Text → Type 0
MayBegin WriteError.Device begun = Unit {0}
MayBegin WriteError.NoMemory begun = begun ≡ []

-- of a text a prefix was written before this error
abbrev pub WritesPrefix : Text → Option Text → Option Text → WriteError → Type 0
WritesPrefix text old new error = (begun left : Text) × (begun ++ left ≡ text) × Appends old new begun × MayBegin error begun

-- the line that has begun was answered, and told if it is refused
pub record TakesTurn (Told : Option LineRefusal → Type 0) (old new : Feed) (written written' : Option Text) : Type 0 where
  pub turn : Turn
  pub is : IsTurn old.number old.live old.begun.items turn
  pub heard : Option LineRefusal
  pub why : IsHeard old.number old.live old.begun.items heard
  pub told : Told heard
  pub live : new.live ≡ turn.live
  pub number : new.number ≡ suc old.number
  pub begun : new.begun.items ≡ []
  pub wrote : Appends written written' turn.text

-- a prefix of its answer was written before this error
pub record TurnsPartly (old : Feed) (written written' : Option Text) (error : WriteError) : Type 0 where
  pub turn : Turn
  pub is : IsTurn old.number old.live old.begun.items turn
  pub wrote : WritesPrefix turn.text written written' error

-- the refusal of line n for a reason, if there is one
abbrev pub refusal_of : ℕ → Option LineReason → Option LineRefusal
refusal_of n None = None
refusal_of n (Some reason) = Some (record { line = n; reason = Line reason })

-- by what it hears, a listener was told of one refusal, or of none
abbrev pub HeardRefusal : {X : Type 0} → (X → List LineRefusal → X → Type 0) → X → Option LineRefusal → X → Type 0
HeardRefusal hears old None new = new ≡ old
HeardRefusal hears old (Some refusal) new = hears old (refusal ∷ []) new
