-- Histories in which no heap may be full, and what was looked through of a history.
use Rattle.std.specs.Prelude.{◌≡◌, Bool, true, false, Option, Some, None, List, count_by, length, take}
use Rattle.mh_judge.specs.declared.entry_fault.EntryFault.{EntryFault}
use Rattle.mh_model.specs.{declared.command.Control.TheVariants.{Quantum, Start}, declared.command.Event.Event}
use Rattle.mh_model.specs.{declared.config.Rules.Rules, declared.history.Entry.Entry, declared.history.Verdict.Verdict}
use Rattle.mh_model.specs.{declared.history.Verdict.TheVariants.FirstBad, declared.reply.Reply.Reply}
use Rattle.mh_model.specs.{Sessions.{SeenText, Whole, CutOff, Bad, IsLegalForSessions}, Snapshot.is_heap_full}
use Rattle.mh_judge_sessions.specs.{declared.tally.EntryCounts.EntryCounts, Faults.{IsOtherAfter, IsUnseenAfter}}

-- Full heaps -------------------------------------------------------------------------------------

-- a session is answered that the heap is full
abbrev pub answers_full : Event → Reply → Bool
answers_full (Event.Session who command) answer = is_heap_full answer
answers_full (Event.Control control) answer = false

abbrev pub is_full : Entry → Bool
is_full entry = answers_full entry.event entry.reply

-- as a correct collector may answer its sessions whose heap has room for all that is made
pub record IsLegalWithRoom (rules : Rules) (history : List Entry) : Type 0 where
  pub legal : IsLegalForSessions rules history
  pub room : count_by is_full history ≡ 0

-- the histories that are legal for their sessions, by whether a heap may be full
abbrev pub lawful_by : Bool → Rules → List Entry → Type 0
lawful_by true = IsLegalForSessions
lawful_by false = IsLegalWithRoom

-- and what is wrong with an entry after others: where no heap may be full, a full one is as any other reply that isn't the world's
abbrev pub wrong_by : Bool → Rules → List Entry → Entry → EntryFault → Type 0
wrong_by true = IsUnseenAfter
wrong_by false = IsOtherAfter

-- Tallies ----------------------------------------------------------------------------------------

-- these ask the collector to work
abbrev pub asks_quantum : Event → Bool
asks_quantum (Event.Control Quantum) = true
asks_quantum _ = false

abbrev pub asks_start : Event → Bool
asks_start (Event.Control Start) = true
asks_start _ = false

-- how many entries these are, how many of them are full, and how many ask for a quantum or for the start of a cycle
abbrev pub tally_of : List Entry → EntryCounts
tally_of entries = record {
  entries = length entries;
  full = count_by is_full entries;
  quanta = count_by (λ entry. asks_quantum entry.event) entries;
  starts = count_by (λ entry. asks_start entry.event) entries;
}

-- the entries that a verdict needs: up to the first bad one, or all
abbrev pub looked_through : Verdict → List Entry → List Entry
looked_through (FirstBad number) entries = take number entries
looked_through _ entries = entries

-- the tally beside the verdict on a text, of whose lines those before a last one that was cut off count
abbrev pub tally_beside : Verdict → SeenText → Option EntryCounts
tally_beside verdict (Whole named entries) = Some (tally_of (looked_through verdict entries))
tally_beside verdict (CutOff named line entries) = Some (tally_of (looked_through verdict entries))
tally_beside verdict (Bad line) = None
