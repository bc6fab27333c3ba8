-- What is said of a log that is refused, and of an entry of an order that is bad, as texts.
use Rattle.std.specs.Prelude.{◌++◌, codes, decimal}
use Rattle.mh_model.specs.{Bytes.Text, declared.history.Version.TheVariants.{One, Two}}
use Rattle.mh_judge.specs.FaultTexts.{entry_fault_text}
use Rattle.mh_judge_log.specs.declared.{fault.OrderFault.OrderFault, reason.CommandReason.CommandReason}
use Rattle.mh_judge_log.specs.declared.{reason.FirstReason.FirstReason, reason.LogLineReason.LogLineReason}
use Rattle.mh_judge_log.specs.declared.reason.LogReason.{LogReason}
use Rattle.mh_reasons.specs.Texts.{byte_fault_text, history_line_text, number_fault_text, quoted_text}

abbrev pub first_text : FirstReason → Text
first_text (FirstReason.Bytes fault) = byte_fault_text fault
first_text (FirstReason.History One) = codes "a history of version 1: check reads it"
first_text (FirstReason.History Two) = codes "a history of version 2: audit reads it"
first_text FirstReason.Script = codes "a script: run reads it"
first_text FirstReason.NotLog = codes "the first line is log 1"

abbrev pub command_text : CommandReason → Text
command_text CommandReason.FewWords = codes "a command is BEGIN END sN COMMAND = REPLY, and order 1 ends them"
command_text (CommandReason.Time word fault) = quoted_text word ++ (codes " is no time: " ++ number_fault_text fault)
command_text CommandReason.Backwards = codes "BEGIN is above END"
command_text CommandReason.Control = codes "a log has no controls"
command_text (CommandReason.Entry reason) = history_line_text reason

abbrev pub log_line_text : LogLineReason → Text
log_line_text LogLineReason.Blank = codes "a log has no empty lines"
log_line_text LogLineReason.Comment = codes "a log has no comments"
log_line_text (LogLineReason.Bytes fault) = byte_fault_text fault
log_line_text (LogLineReason.Command reason) = command_text reason
log_line_text (LogLineReason.NoSession word) = quoted_text word ++ codes " is no session: s0 to s8"
log_line_text (LogLineReason.NoneLeft word) = codes "no command of " ++ quoted_text word ++ codes " is left"

-- What is said of a log that is refused
abbrev pub log_reason_text : LogReason → Text
log_reason_text LogReason.TooLong = codes "a log has at most 2147483648 bytes"
log_reason_text LogReason.Empty = codes "the log has no bytes"
log_reason_text LogReason.NoNewline = codes "the last line has no newline"
log_reason_text (LogReason.First reason) = first_text reason
log_reason_text LogReason.NoOrder = codes "the log ends before order 1"
log_reason_text LogReason.CommandsLeft = codes "the order ends while commands are left"
log_reason_text (LogReason.Line reason) = log_line_text reason

-- What is said of an entry of an order that is bad
abbrev pub order_fault_text : OrderFault → Text
order_fault_text (OrderFault.Late earlier) = codes "it had ended before entry " ++ decimal earlier ++ codes " began"
order_fault_text (OrderFault.Unseen fault) = entry_fault_text fault
