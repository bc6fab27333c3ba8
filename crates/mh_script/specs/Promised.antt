-- What a run of a script promises: the replies that it wrote are those of an outcome that keeps the promise.
use Rattle.std.specs.Prelude.{◌≡◌, ◌<◌, List, length, take, Result, Ok, Err}
use Rattle.mh_model.specs.{declared.command.Event.Event, declared.config.Config.Config, declared.config.Rules.Rules}
use Rattle.mh_model.specs.{declared.reply.Reply.Reply, Bytes.Text, Limits.most_entries, Replies.replies_text}
use Rattle.mh_model.specs.{RunHistories.reading_under, Script.{Meaning, Means}}
use Rattle.mh_promise.specs.Promise.{ArePromised}
use Rattle.mh_text.specs.Devices.{Device}
use Rattle.mh_script.specs.{declared.end.End.End, declared.end.End.TheVariants.{Done, Refused}}
use Rattle.mh_script.specs.{declared.fault.ScriptFault.ScriptFault, declared.fault.ScriptFault.TheVariants.HistoryFull}
use Rattle.mh_script.specs.{Run.IsOutput, Tasks.IsDone}

-- a text shows the replies of an outcome that keeps the promise of these events
pub record IsPromisedText (Shows : Config → List Event → List Reply → Text → Type 0) (config : Config) (events : List Event) (text : Text) : Type 0 where
  pub replies : List Reply
  pub promised : ArePromised config events replies
  pub shows : Shows config events replies text

-- the replies as they are, a line for each
abbrev pub AreReplies : Config → List Event → List Reply → Text → Type 0
AreReplies config events replies text = text ≡ replies_text replies

-- a text is a script, of which this holds under these rules
abbrev pub IsOfScript : Rules → Text → (Config → List Event → Type 0) → Type 0
IsOfScript rules text Holds = (script : Meaning) × (reading_under rules text ≡ Means script) × Holds script.config script.events

-- What a run that ended so promises of a script that is not refused. The text that is to be written shows the replies of an outcome that keeps the promise
-- of all events, or of the first 1,000,000 if there are more. If memory or a device cut the run short, a prefix of it was written
abbrev pub KeepsPromise : (Config → List Event → List Reply → Text → Type 0) → Rules → Text → Result End ScriptFault → Text → Type 0
KeepsPromise Shows rules text (Ok Done) out = IsOfScript rules text (λ config events. IsPromisedText Shows config events out)
KeepsPromise Shows rules text (Ok (Refused refusal)) out = Unit {0}
KeepsPromise Shows rules text (Err HistoryFull) out = IsOfScript rules text (λ config events. (most_entries < length events) × IsPromisedText Shows config (take most_entries events) out)
KeepsPromise Shows rules text (Err fault) out = (script : Meaning) → reading_under rules text ≡ Means script → IsPromisedText Shows script.config (take most_entries script.events) out

-- this is to be written of a text if its run ended so, and what that promises of the replies that it shows so
pub record IsPromisedOutput (Shows : Config → List Event → List Reply → Text → Type 0) (rules : Rules) (written : Text → Text) (text : Text) (ended : Result End ScriptFault) (out : Text) : Type 0 where
  pub output : IsOutput written text ended out
  pub promise : KeepsPromise Shows rules text ended out

-- A run of the script of a source into a sink, how it ended, and what it promises
abbrev pub IsPromisedRun : (Config → List Event → List Reply → Text → Type 0) → Rules → (Text → Text) → (source source' sink sink' : Device) → Result End ScriptFault → Type 0
IsPromisedRun Shows rules written = IsDone (IsPromisedOutput Shows rules written) 67108864
