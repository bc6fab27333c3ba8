-- What was looked through of the order of a log.
use Rattle.std.specs.Prelude.{Option, Some, None, List, count_by, length}
use Rattle.mh_model.specs.{declared.history.Entry.Entry, declared.history.Verdict.Verdict}
use Rattle.mh_model.specs.Script.{Reading, BadLine, Means}
use Rattle.mh_judge_sessions.specs.Full.{is_full, looked_through}
use Rattle.mh_judge_log.specs.{declared.tally.OrderCounts.OrderCounts, declared.timed.Timed.Timed, Orders.entries_of}

-- how many entries these are, and how many of them are full
abbrev pub counts_of : List Entry → OrderCounts
counts_of entries = record { entries = length entries; full = count_by is_full entries }

-- the tally beside the verdict on a log, if its order was read: of its entries up to the first bad one, or of all
abbrev pub tally_beside : Verdict → Reading (List Timed) → Option OrderCounts
tally_beside verdict (Means order) = Some (counts_of (looked_through verdict (entries_of order)))
tally_beside verdict (BadLine line) = None
