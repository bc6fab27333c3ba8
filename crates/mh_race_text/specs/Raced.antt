-- What is written of a race of a script.
use Rattle.std.specs.Prelude.{◌≡◌, List, length, Result, Ok, Err}
use Rattle.mh_model.specs.{declared.command.Event.Event, Bytes.{Text, line_text}, Limits.most_entries}
use Rattle.mh_model.specs.{Races.{IsRaced, IsRacedFull, IsRaceBegun}, Replies.bad_line_text}
use Rattle.mh_model.specs.Script.{Meaning, Reading, BadLine, Means, reading}
use Rattle.mh_text.specs.Devices.{Device}
use Rattle.mh_reasons.specs.Reasons.{IsReason}
use Rattle.mh_script.specs.{declared.end.End.End, declared.end.End.TheVariants.{Done, Refused}}
use Rattle.mh_script.specs.declared.fault.ScriptFault.{ScriptFault}
use Rattle.mh_script.specs.declared.fault.ScriptFault.TheVariants.{Write, NoMemory, HistoryFull}
use Rattle.mh_script.specs.{Histories.AreRecorded, Promised.IsPromisedText, Run.TakesToRun, Tasks.IsDone}
use Rattle.mh_race.specs.Racing.{BeginsItsCalls, MakesTheCalls}

-- a text is a history of events that have such calls of each seat of the script, and shows the replies of an outcome that keeps the promise of these events
pub record IsPromisedRace (Calls : List Event → List Event → Type 0) (script : Meaning) (text : Text) : Type 0 where
  pub events : List Event
  pub calls : Calls script.events events
  pub promised : IsPromisedText AreRecorded script.config events text

-- each seat has made the first of its calls, and there are as many as a history may have
abbrev pub FillsAHistory : List Event → List Event → Type 0
FillsAHistory events done = (length done ≡ most_entries) × BeginsItsCalls events done

-- what is to be written of a race that was cut short: what one leaves whose seats made the first of their calls, or the line that refuses the script
abbrev pub IsBegunRace : Reading Meaning → Text → Type 0
IsBegunRace (BadLine line) out = out ≡ line_text (bad_line_text line)
IsBegunRace (Means script) out = IsRaceBegun script out × IsPromisedRace BeginsItsCalls script out

-- a text is a script, of whose race this is to be written
abbrev pub IsRaceOf : Text → (Meaning → Type 0) → Type 0
IsRaceOf text Holds = (script : Meaning) × (reading text ≡ Means script) × Holds script

-- What is to be written of a text if its race ended so. The history shows the replies of an outcome that keeps the promise of all calls of the script, of
-- 1,000,000 of them, or if memory or a device cut the race short of the first ones. A script is refused with its first bad line, for a reason that is true
abbrev pub IsRaceOutput : Text → Result End ScriptFault → Text → Type 0
IsRaceOutput text (Ok Done) out = IsRaceOf text (λ script. IsRaced script out × IsPromisedRace MakesTheCalls script out)
IsRaceOutput text (Ok (Refused refusal)) out = (reading text ≡ BadLine refusal.line) × IsReason text refusal.line refusal.reason × (out ≡ line_text (bad_line_text refusal.line))
IsRaceOutput text (Err HistoryFull) out = IsRaceOf text (λ script. IsRacedFull script out × IsPromisedRace FillsAHistory script out)
IsRaceOutput text (Err NoMemory) out = TakesToRun text × IsBegunRace (reading text) out
IsRaceOutput text (Err Write) out = IsBegunRace (reading text) out
IsRaceOutput text (Err fault) out = ⊥

-- A race of the script of a source into a sink, and how it ended
abbrev pub IsRaceRun : (source source' sink sink' : Device) → Result End ScriptFault → Type 0
IsRaceRun = IsDone IsRaceOutput 67108864
