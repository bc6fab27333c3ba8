-- What a run of a script writes, and how it ends.
use Rattle.std.specs.Prelude.{ℕ, nat_lt, if◌then◌else◌, length, take}
use Rattle.mh_model.specs.{Bytes.{Text, line_text}, Limits.most_entries, Machine.{first_machine, machine_replies}}
use Rattle.mh_model.specs.{Replies.{bad_line_text, replies_text}, Script.{Meaning, Reading, BadLine, Means, reading}}

-- what a run writes of a script that is read so
abbrev pub output_of : Reading Meaning → Text
output_of (BadLine line) = line_text (bad_line_text line)
output_of (Means script) = replies_text (machine_replies (first_machine script.config) (take most_entries script.events))

-- what a run of a script writes: its first bad line, or the replies to its first 1,000,000 events
unfoldable pub output : Text → Text
output text = output_of (reading text)

-- how a run ends that neither memory nor a device cuts short. All is answered; the history is full and events are left; or the script is refused with
-- its first bad line
pub data Ending : Type 0 where
  Done : Ending
  HistoryFull : Ending
  Refused : ℕ → Ending

abbrev pub ending_of : Reading Meaning → Ending
ending_of (BadLine line) = Refused line
ending_of (Means script) = if nat_lt most_entries (length script.events) then HistoryFull else Done

-- the end of a run of a script, after all of its output
unfoldable pub ending : Text → Ending
ending text = ending_of (reading text)
