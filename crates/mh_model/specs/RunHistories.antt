-- What a run of a script writes under given rules: its replies, or its history.
use Rattle.std.specs.Prelude.{take, List}
use Rattle.mh_model.specs.{declared.command.Event.Event, declared.config.Config.Config, declared.config.Rules.Rules}
use Rattle.mh_model.specs.{Bytes.{Text, line_text}, Configs.with_rules}
use Rattle.mh_model.specs.{HistoryTexts.{Recorded, machine_record, recorded_text}, Limits.most_entries}
use Rattle.mh_model.specs.{Machine.first_machine, Output.output_of, Replies.bad_line_text}
use Rattle.mh_model.specs.Script.{Meaning, Reading, BadLine, Means, reading, reading_map}

-- a script under these rules
abbrev pub under_rules : Rules → Meaning → Meaning
under_rules rules script = record { config = with_rules rules script.config; events = script.events }

-- a text as a script under these rules. Without them it is one under the second
abbrev pub reading_under : Rules → Text → Reading Meaning
reading_under rules text = reading_map (under_rules rules) (reading text)

-- the output of a script under these rules
unfoldable pub output_under : Rules → Text → Text
output_under rules text = output_of (reading_under rules text)

-- the history of events: what the first machine answers to them, and the units of each
abbrev pub recorded_run : Config → List Event → Recorded
recorded_run config events = record { config = config; entries = machine_record (first_machine config) events }

-- what a run writes as a history of a script that is read so
abbrev pub history_output_of : Reading Meaning → Text
history_output_of (BadLine line) = line_text (bad_line_text line)
history_output_of (Means script) = recorded_text (recorded_run script.config (take most_entries script.events))

-- what a run of a script writes as a history of version 2: its first bad line, or the history of its first 1,000,000 events
unfoldable pub history_output : Rules → Text → Text
history_output rules text = history_output_of (reading_under rules text)
