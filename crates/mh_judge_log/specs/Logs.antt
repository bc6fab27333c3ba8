-- Logs of threads with an order of their commands, as texts.
-- The threads of an adapter are sessions. Each logs its commands with the times of their beginnings and ends. The order names a session for each
-- command, so it keeps the order of each session by what it is.
use Rattle.std.specs.Prelude.{ℕ, suc, ◌==◌, nat_lt, nat_le, Bool, true, false, ◌&&◌, if◌then◌else◌, Option, Some, None, option_map, option_and_then, List, [], ◌∷◌, ◌++◌, length, codes}
use Rattle.mh_model.specs.{declared.command.Event.Event, declared.history.Entry.Entry}
use Rattle.mh_model.specs.declared.history.Version.TheVariants.{One}
use Rattle.mh_model.specs.{Bytes.{Text, Cut, cut_after, is_text, number, words}, Forms.within}
use Rattle.mh_model.specs.{HistoryTexts.{entry_of, session_of}, Script.{Reading, BadLine, at_end, reading_map}}
use Rattle.mh_judge_log.specs.declared.timed.Timed.{Timed}

-- Commands ---------------------------------------------------------------------------------------

-- an event is a session's; and it is that of the session with a number, alone and with its times
abbrev pub is_command : Event → Bool
is_command (Event.Session who command) = true
is_command (Event.Control control) = false

abbrev pub is_asked_by : ℕ → Event → Bool
is_asked_by who (Event.Session other command) = other == who
is_asked_by who (Event.Control control) = false

abbrev pub is_of : ℕ → Timed → Bool
is_of who timed = is_asked_by who timed.entry.event

-- an entry with the times of its command. A control has none, and no command ends before it begins
abbrev pub timed_by : ℕ → ℕ → Entry → Option Timed
timed_by begin end entry = within (nat_le begin end && is_command entry.event) (record { begin = begin; end = end; entry = entry })

-- the command that words are: `BEGIN END sN COMMAND = REPLY`
abbrev pub timed_of : List Text → Option Timed
timed_of (begin ∷ end ∷ words) = option_and_then (λ b. option_and_then (λ e. option_and_then (timed_by b e) (entry_of One words)) (number end)) (number begin)
timed_of _ = None

-- Orders -----------------------------------------------------------------------------------------

-- a command that was taken of those that were left, and the others
pub record Taken : Type 0 where
  pub command : Timed
  pub others : List Timed

-- a session's first command of those that are left
abbrev pub take_first : ℕ → List Timed → Option Taken
take_first who [] = None
take_first who (timed ∷ left) =
    if is_of who timed then Some (record { command = timed; others = left })
    else option_map (λ taken. record { command = taken.command; others = timed ∷ taken.others }) (take_first who left)

-- the command that a line of an order takes
abbrev pub taken_by : Text → List Timed → Option Taken
taken_by line left = option_and_then (λ who. take_first who left) (session_of line)

-- the end of an order, of which line n would be the next: no command is left
abbrev pub order_end : List Timed → ℕ → Text → Reading (List Timed)
order_end [] n rest = at_end [] n rest
order_end (timed ∷ left) n rest = BadLine n

-- the commands that are left, in the order of the lines from line n on
abbrev pub order_from : List Timed → ℕ → List Text → Text → Reading (List Timed)
order_from left n [] rest = order_end left n rest
order_from left n (line ∷ lines) rest =
    elim (taken_by line left) [ Some taken ↦ reading_map (λ order. taken.command ∷ order) (order_from taken.others (suc n) lines rest) | None ↦ BadLine n ]

-- Texts ------------------------------------------------------------------------------------------

-- the lines of a log from line n on, after these commands, up to the line `order 1`; and then the order
abbrev pub log_from : List Timed → ℕ → List Text → Text → Reading (List Timed)
log_from log n [] rest = BadLine n
log_from log n (line ∷ lines) rest =
    if is_text line (codes "order 1") then order_from log (suc n) lines rest
    else elim (timed_of (words line)) [ Some timed ↦ log_from (log ++ timed ∷ []) (suc n) lines rest | None ↦ BadLine n ]

-- a text of any length as a log with an order
abbrev pub ordered_of : Cut → Reading (List Timed)
ordered_of cut = ordered_lines cut.pieces cut.rest where
  ordered_lines : List Text → Text → Reading (List Timed)
  ordered_lines [] rest = BadLine 1
  ordered_lines (line ∷ lines) rest = if is_text line (codes "log 1") then log_from [] 2 lines rest else BadLine 1

-- the commands of a text in its order. A text of more than 2,147,483,648 bytes is too long and is refused with line 0
unfoldable pub ordered_reading : Text → Reading (List Timed)
ordered_reading text = if nat_lt 2147483648 (length text) then BadLine 0 else ordered_of (cut_after 10 text)
