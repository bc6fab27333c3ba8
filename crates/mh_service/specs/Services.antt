-- Services and their seats as contracts see them, and what a service leaves.
use Rattle.std.specs.Prelude.{◌≡◌, ℕ, List, [], All, Result, MatchResult, IsErrOf, get_or, length}
use Rattle.atomic_table.specs.Seated.{TableId}
use Rattle.mh_lock.specs.Seats.{LockSeatView}
use Rattle.mh_model.specs.{declared.command.Event.Event, declared.config.Config.Config, declared.history.Entry.Entry}
use Rattle.mh_model.specs.{declared.reply.Reply.Reply, History.{owner_of, owned_by, replies_of}, Limits.most_entries}
use Rattle.mh_promise.specs.Runs.{Outcome}
use Rattle.mh_seat_laws.specs.Merges.{IsMerge}
use Rattle.mh_service.specs.{declared.service.Closed.Closed, Sharing.{IsReplayOf, IsDone, IsRefused}}
use Rattle.mh_state.specs.Storing.{Stored}
use Rattle.mh_machine.specs.declared.machine.Stop.{Stop}

-- A service: the table of its lock, and its configuration
pub record ServiceView : Type 0 where
  pub table : TableId
  pub config : Config

-- a seat is one of this service
abbrev pub IsOfService : ServiceView → LockSeatView Entry → Type 0
IsOfService service seat = seat.table ≡ service.table

-- the seat of this service that has a number, before its first call
abbrev pub first_seat : ServiceView → ℕ → LockSeatView Entry
first_seat service number = record { table = service.table; number = number; log = [] }

-- an event is one of a seat's
abbrev pub Owns : LockSeatView Entry → Event → Type 0
Owns seat event = owner_of event ≡ seat.number

-- what a service leaves, as what is promised of it
abbrev pub shown_left : Closed → Outcome
shown_left closed = record { replies = replies_of closed.history.items; heap = closed.heap.kept; free = closed.free; trace = closed.trace.trace }

-- A history is a merge of nine logs, of which each seat's stands at its number
pub record AreMerged (seats : List (LockSeatView Entry)) (history : List Entry) : Type 0 where
  pub logs : List (List Entry)
  pub nine : length logs ≡ 9
  pub each : All (λ seat. get_or logs seat.number [] ≡ seat.log) seats
  pub merge : IsMerge logs history

-- A call that took the lock: it found the replay of a history under the service's configuration, and left the replay of one;
-- in each the seat owns just its log. If it was answered, its event was done in the state found, and where it was refused, that state is left;
-- a full history is reported as full
pub record IsServed (service : ServiceView) (before after : LockSeatView Entry) (event : Event) (answer : Result Reply Stop) : Type 0 where
  pub found : Stored
  pub left : Stored
  pub replay_found : IsReplayOf service.config found
  pub replay_left : IsReplayOf service.config left
  pub log_found : before.log ≡ owned_by (λ entry. owner_of entry.event) before.number found.history
  pub log_left : after.log ≡ owned_by (λ entry. owner_of entry.event) after.number left.history
  pub done : MatchResult answer (λ reply. IsDone event found reply left) (λ reason. IsRefused event found reason left)
  pub ends : length found.history ≡ most_entries → IsErrOf answer Stop.HistoryFull
