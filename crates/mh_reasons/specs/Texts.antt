-- What reasons say, as texts.
use Rattle.std.specs.Prelude.{ℕ, ◌/◌, ◌%◌, ◌==◌, ◌&&◌, nat_le, if◌then◌else◌, List, [], ◌∷◌, ◌++◌, codes, decimal, flat_map, false}
use Rattle.std.specs.Fmt.{digits}
use Rattle.mh_model.specs.{Bytes.Text, declared.history.Version.TheVariants.{One, Two}}
use Rattle.mh_reasons.specs.{declared.byte_fault.ByteFault.ByteFault, declared.byte_fault.SpacePlace.SpacePlace}
use Rattle.mh_reasons.specs.declared.history_reason.HistoryReason.{HistoryReason}
use Rattle.mh_reasons.specs.declared.history_reason.HistoryLineReason.{HistoryLineReason}
use Rattle.mh_reasons.specs.{declared.number_fault.NumberFault.NumberFault, declared.quoted.Quoted.Quoted}
use Rattle.mh_reasons.specs.{declared.verb.Verb.Verb, declared.reason.ConfigNumber.ConfigNumber}
use Rattle.mh_reasons.specs.{declared.reason.LineReason.LineReason, declared.reason.ScriptReason.ScriptReason}
use Rattle.mh_reasons.specs.Verbs.{verb_text}

-- Words ------------------------------------------------------------------------------------------

-- a byte as two hexadecimal digits
abbrev pub hexadecimal : ℕ → Text
hexadecimal byte = digits 16 false (byte / 16) ++ digits 16 false (byte % 16)

-- a byte between quotes: what can't be printed is escaped, and so are quotes and backslashes
abbrev pub escaped_text : ℕ → Text
escaped_text byte =
    if byte == 34 then 92 ∷ 34 ∷ [] else (if byte == 92 then 92 ∷ 92 ∷ [] else (if nat_le 32 byte && nat_le byte 126 then byte ∷ [] else codes "\\x" ++ hexadecimal byte))

-- a word between quotes, and three dots if it has more
abbrev pub quoted_text : Quoted → Text
quoted_text quoted = 34 ∷ (flat_map escaped_text quoted.bytes.items ++ (if quoted.is_cut then codes "\"..." else codes "\""))

-- the names of the numbers that follow a verb
abbrev pub operands_text : Verb → Text
operands_text Verb.Config = codes "PAGES QUANTUM TRIGGER EVERY"
operands_text Verb.New = codes "D R N"
operands_text Verb.Get = codes "D S F"
operands_text Verb.Put = codes "S F V"
operands_text Verb.Copy = codes "D S"
operands_text Verb.Clear = codes "D"
operands_text Verb.Read = codes "S I"
operands_text Verb.Write = codes "S I X"
operands_text Verb.Same = codes "A B"
operands_text Verb.Shape = codes "S"
operands_text Verb.Post = codes "B S"
operands_text Verb.Take = codes "D B"
operands_text Verb.Report = codes "W"
operands_text Verb.Rules = codes "R PAGES QUANTUM TRIGGER EVERY"
operands_text Verb.Units = codes "A B"
operands_text _ = codes "nothing"

-- what a verb takes
abbrev pub takes_text : Verb → Text
takes_text verb = codes "\"" ++ verb_text verb ++ codes "\" takes " ++ operands_text verb

-- Faults -----------------------------------------------------------------------------------------

abbrev pub byte_fault_text : ByteFault → Text
byte_fault_text (ByteFault.Stray byte) = if byte == 13 then codes "a carriage return" else (if byte == 9 then codes "a tab" else codes "a byte \\x" ++ hexadecimal byte)
byte_fault_text (ByteFault.Space SpacePlace.Start) = codes "a space at the start"
byte_fault_text (ByteFault.Space SpacePlace.End) = codes "a space at the end"
byte_fault_text (ByteFault.Space SpacePlace.Twice) = codes "two spaces in a row"

abbrev pub number_fault_text : NumberFault → Text
number_fault_text NumberFault.NotDigits = codes "a number is written in digits"
number_fault_text NumberFault.LeadingZero = codes "a number has no leading zero"
number_fault_text (NumberFault.Above most) = codes "the number is above " ++ decimal most

abbrev pub limits_text : ConfigNumber → Text
limits_text ConfigNumber.Pages = codes "PAGES is 1 to 4096"
limits_text ConfigNumber.Quantum = codes "QUANTUM is 209 to 1000000"
limits_text ConfigNumber.Trigger = codes "TRIGGER is 0 to PAGES"
limits_text ConfigNumber.Every = codes "EVERY is 0 to 1000000"

-- Reasons of scripts -----------------------------------------------------------------------------

-- what is wrong with a line
abbrev pub line_reason_text : LineReason → Text
line_reason_text LineReason.Comment = codes "a comment is a line of its own"
line_reason_text (LineReason.Bytes fault) = byte_fault_text fault
line_reason_text (LineReason.History One) = codes "a history: check reads it"
line_reason_text (LineReason.History Two) = codes "a history: audit reads it"
line_reason_text LineReason.Log = codes "a log: check --log reads it"
line_reason_text LineReason.SecondConfig = codes "a configuration comes once"
line_reason_text LineReason.WorldConfig = codes "a world has no configuration"
line_reason_text (LineReason.NotConfig word) = quoted_text word ++ codes ": config PAGES QUANTUM TRIGGER EVERY comes first"
line_reason_text (LineReason.Limit number) = limits_text number
line_reason_text (LineReason.LongName name) = quoted_text name ++ codes ": a name has at most 16 bytes"
line_reason_text (LineReason.BadName name) = quoted_text name ++ codes ": a name is a letter a to z, then letters or digits"
line_reason_text (LineReason.NoCommand name) = codes "no command after " ++ quoted_text name
line_reason_text (LineReason.UnknownCommand word) = quoted_text word ++ codes " is no command"
line_reason_text LineReason.NoControl = codes "no control after \"*\""
line_reason_text (LineReason.UnknownControl word) = quoted_text word ++ codes " is no control"
line_reason_text (LineReason.Operands verb) = takes_text verb
line_reason_text (LineReason.Operand word fault) = quoted_text word ++ codes ": " ++ number_fault_text fault

-- What is said of a script that is refused
abbrev pub script_reason_text : ScriptReason → Text
script_reason_text ScriptReason.TooLong = codes "a script has at most 67108864 bytes"
script_reason_text ScriptReason.NoConfiguration = codes "the script ends before config PAGES QUANTUM TRIGGER EVERY"
script_reason_text ScriptReason.NoNewline = codes "the last line has no newline"
script_reason_text (ScriptReason.Line reason) = line_reason_text reason

-- Reasons of histories ---------------------------------------------------------------------------

-- what is wrong with a line of a history
abbrev pub history_line_text : HistoryLineReason → Text
history_line_text HistoryLineReason.Blank = codes "a history has no empty lines"
history_line_text HistoryLineReason.Comment = codes "a history has no comments"
history_line_text (HistoryLineReason.Bytes fault) = byte_fault_text fault
history_line_text (HistoryLineReason.OtherVersion One) = codes "a history of version 1: check reads it"
history_line_text (HistoryLineReason.OtherVersion Two) = codes "a history of version 2: audit reads it"
history_line_text HistoryLineReason.Log = codes "a log: check --log reads it"
history_line_text HistoryLineReason.Script = codes "a script: run reads it"
history_line_text (HistoryLineReason.NotHistory One) = codes "the first line is history 1"
history_line_text (HistoryLineReason.NotHistory Two) = codes "the first line is history 2 rules R PAGES QUANTUM TRIGGER EVERY"
history_line_text HistoryLineReason.Rules = codes "R is 1 or 2"
history_line_text (HistoryLineReason.Limit number) = limits_text number
history_line_text HistoryLineReason.NoUnits = codes "no units A B after the reply"
history_line_text HistoryLineReason.NoReply = codes "no = between event and reply"
history_line_text HistoryLineReason.NoEvent = codes "no event before ="
history_line_text HistoryLineReason.EmptyReply = codes "no reply after ="
history_line_text (HistoryLineReason.Session word) = quoted_text word ++ codes " is no session: s0 to s8"
history_line_text (HistoryLineReason.Reply word) = codes "the words from " ++ quoted_text word ++ codes " on are no reply"
history_line_text (HistoryLineReason.Words reason) = line_reason_text reason

-- What is said of a history that is refused
abbrev pub history_reason_text : HistoryReason → Text
history_reason_text (HistoryReason.TooLong One) = codes "a history 1 has at most 1073741824 bytes"
history_reason_text (HistoryReason.TooLong Two) = codes "a history 2 has at most 2147483648 bytes"
history_reason_text HistoryReason.Empty = codes "the history has no bytes"
history_reason_text HistoryReason.NoNewline = codes "the last line has no newline"
history_reason_text (HistoryReason.Line reason) = history_line_text reason
