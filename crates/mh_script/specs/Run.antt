-- What a run of a script writes. What is to be written, its replies or its history, is a function of the script's text.
use Rattle.std.specs.Prelude.{◌≡◌, ◌⊎◌, List, [], ◌∷◌, take, Result, Ok, Err}
use Rattle.mh_model.specs.{declared.command.Event.Event, declared.config.Config.Config, declared.config.Rules.Rules}
use Rattle.mh_model.specs.{Bytes.{Text, line_text}, Configs.with_rules, Limits.most_entries}
use Rattle.mh_model.specs.{Machine.{Machine, event_step, first_machine, machine_replies}, Output.ending}
use Rattle.mh_model.specs.{Replies.{bad_line_text, replies_text}, Script.{Meaning, Reading, BadLine, Means, reading}}
use Rattle.mh_text.specs.{Devices.Device, Reading.BeginsWithEvent}
use Rattle.mh_reasons.specs.Reasons.{IsReason}
use Rattle.mh_script.specs.{declared.end.End.End, declared.end.End.TheVariants.{Done, Refused}}
use Rattle.mh_script.specs.declared.fault.ScriptFault.{ScriptFault}
use Rattle.mh_script.specs.{declared.fault.ScriptFault.TheVariants.{NoMemory, HistoryFull}, Lines.Told, Tasks.IsDone}
use Rattle.mh_model.specs.Output as model

-- Transcripts ------------------------------------------------------------------------------------

-- the replies of the first machine to events, as a text, which is what `run_script` writes of them
abbrev pub replies_run : Config → List Event → Text
replies_run config events = replies_text (machine_replies (first_machine config) events)

-- a line for each reply
abbrev pub replies_told : Told Machine Event
replies_told = record { next = λ machine event. (event_step machine event).state; line = λ machine event. replies_text ((event_step machine event).reply ∷ []); last = λ machine. [] }

-- what is written of a reading under these rules: the first bad line, or a transcript of the first 1,000,000 events
abbrev pub transcript_of : (Config → List Event → Text) → Rules → Reading Meaning → Text
transcript_of text_of rules (BadLine line) = line_text (bad_line_text line)
transcript_of text_of rules (Means script) = text_of (with_rules rules script.config) (take most_entries script.events)

-- the transcript of a text, at which the way to write it may look
abbrev pub transcript : (Text → Config → List Event → Text) → Rules → Text → Text
transcript text_of rules text = transcript_of (text_of text) rules (reading text)

-- Runs -------------------------------------------------------------------------------------------

-- a text for which a run or a race takes memory: it begins with an event, or is a script
abbrev pub TakesToRun : Text → Type 0
TakesToRun text = BeginsWithEvent text ⊎ ((script : Meaning) × (reading text ≡ Means script))

-- a run of a text may end so. If it is refused, that line of it is outside the grammar for that reason
abbrev pub MayEndSo : Text → Result End ScriptFault → Type 0
MayEndSo text (Ok Done) = ending text ≡ model.Done
MayEndSo text (Ok (Refused refusal)) = (ending text ≡ model.Refused refusal.line) × IsReason text refusal.line refusal.reason
MayEndSo text (Err HistoryFull) = ending text ≡ model.HistoryFull
MayEndSo text (Err NoMemory) = TakesToRun text
MayEndSo text (Err fault) = Unit {0}

-- this is to be written of a text if its run ended so
abbrev pub IsOutput : (Text → Text) → Text → Result End ScriptFault → Text → Type 0
IsOutput written text ended out = (out ≡ written text) × MayEndSo text ended

-- A run of the script of a source into a sink, and how it ended
abbrev pub IsRun : (Text → Text) → (source source' sink sink' : Device) → Result End ScriptFault → Type 0
IsRun written = IsDone (IsOutput written) 67108864

-- what the run of a script's first 1,000,000 events has made of its transcript
abbrev pub HasRun : (Config → List Event → Type 0) → Rules → Text → Type 0
HasRun Leaves rules text = (script : Meaning) × (reading text ≡ Means script) × Leaves (with_rules rules script.config) (take most_entries script.events)

-- what a run has made of its transcript that did all its events, or as many as a history has
abbrev pub LeavesForm : (Config → List Event → Type 0) → Rules → Text → Result End ScriptFault → Type 0
LeavesForm Leaves rules text (Ok Done) = HasRun Leaves rules text
LeavesForm Leaves rules text (Err HistoryFull) = HasRun Leaves rules text
LeavesForm Leaves rules text ended = Unit {0}

-- a transcript of this text is to be written if its run ended so, and this is made of its form
pub record IsTranscript (text_of : Text → Config → List Event → Text) (rules : Rules) (Leaves : Config → List Event → Type 0) (text : Text) (ended : Result End ScriptFault) (out : Text) : Type 0 where
  pub output : IsOutput (transcript text_of rules) text ended out
  pub leaves : LeavesForm Leaves rules text ended
