-- Runs that are written as histories of version 2.
use Rattle.std.specs.Prelude.{◌≡◌, ◌≤◌, List, [], map, take, length, Result, Ok, Err}
use Rattle.mh_model.specs.{declared.command.Event.Event, declared.config.Config.Config, declared.config.Rules.Rules}
use Rattle.mh_model.specs.{declared.history.Measured.Measured, declared.reply.Reply.Reply}
use Rattle.mh_model.specs.Bytes.{Text, joined, line_text}
use Rattle.mh_model.specs.HistoryTexts.{header_words, measured_events, measured_line, measured_step, recorded_text}
use Rattle.mh_model.specs.{Limits.most_entries, Machine.{Machine, event_step}}
use Rattle.mh_model.specs.RunHistories.{history_output, recorded_run}
use Rattle.mh_text.specs.Devices.{Device}
use Rattle.mh_text_laws.specs.RunHistories.{IsRunHistory}
use Rattle.mh_script.specs.{declared.end.End.End, declared.end.End.TheVariants.Done}
use Rattle.mh_script.specs.{declared.fault.ScriptFault.ScriptFault, declared.fault.ScriptFault.TheVariants.HistoryFull}
use Rattle.mh_script.specs.{Lines.Told, Promised.{IsOfScript, IsPromisedOutput}, Tasks.IsDone}

-- the first line of a history
abbrev pub header : Config → Text
header config = line_text (joined (header_words config))

-- the line of an event of a machine, with its reply and its units
abbrev pub record_line : Machine → Event → Text
record_line machine event = line_text (measured_line (measured_step machine event (event_step machine event)))

-- a line for each element of a list, which has an event
abbrev pub record_told : {X : Type 0} → (X → Event) → Told Machine X
record_told event_of = record { next = λ machine x. (event_step machine (event_of x)).state; line = λ machine x. record_line machine (event_of x); last = λ machine. [] }

-- the record of a run of these events, as a text
abbrev pub history_run : Config → List Event → Text
history_run config events = recorded_text (recorded_run config events)

-- the replies in the entries of a history of these events
abbrev pub AreRecorded : Config → List Event → List Reply → Text → Type 0
AreRecorded config events replies text =
    (entries : List Measured) × (measured_events entries ≡ events) × (map (λ measured. measured.entry.reply) entries ≡ replies) × (text ≡ recorded_text (record { config = config; entries = entries }))

-- a history of a script's run is a legal one of the events that are taken, if it is no longer than a history may be
abbrev pub IsLegalHistory : Rules → Text → Text → Type 0
IsLegalHistory rules text out = IsOfScript rules text (λ config events. length out ≤ 2147483648 → IsRunHistory config (take most_entries events) out)

-- so it is at the end of a run whose script isn't refused
abbrev pub IsLegalEnd : Rules → Text → Result End ScriptFault → Text → Type 0
IsLegalEnd rules text (Ok Done) out = IsLegalHistory rules text out
IsLegalEnd rules text (Err HistoryFull) out = IsLegalHistory rules text out
IsLegalEnd rules text ended out = Unit {0}

-- A run of the script of a source that writes its history into a sink, how it ended, and what it promises
abbrev pub IsHistoryRun : Rules → (source source' sink sink' : Device) → Result End ScriptFault → Type 0
IsHistoryRun rules = IsDone (λ text ended out. IsPromisedOutput AreRecorded rules (history_output rules) text ended out × IsLegalEnd rules text ended out) 67108864
