-- What the rules of the claim word and of the lock give, and what keeps them. The crates of both cite these laws.
use Rattle.std.specs.Prelude.{◌≡◌, ℕ, ◌≤◌, List, length}
use Rattle.atomic_table.specs.Table.{State}
use Rattle.mh_model.specs.{declared.command.Event.Event, declared.history.Entry.Entry}
use Rattle.mh_model.specs.History.{owner_of, LockState, AreLogs, IsKeptBy}
use Rattle.mh_seat_laws.specs.{Lock.{IsLocked, Shows}, Merges.IsMerge, declared.seat_view.SeatView.SeatView}

-- The lock ---------------------------------------------------------------------------------------

-- A table that keeps the rule of the lock shows a lock of the model that keeps the lock's rule
abbrev pub LockIsKept : Type 0 → Type 0 → Type 0 → Type 0
LockIsKept T E O = (owner : E → ℕ) (entries : T → List E) (origin : T → O) (about : ℕ × O) (table : State T (SeatView E O)) → IsLocked owner entries origin about table → (lock : LockState E) × IsKeptBy owner lock × Shows entries about.0 table lock

-- Each event is owned by one of the nine seats, 0 to 8
abbrev pub EventsHaveOneOwner : Type 0
EventsHaveOneOwner = (event : Event) → owner_of event ≤ 8

-- Nine logs, each of which is what its seat owns of a history, merge to that history
abbrev pub LogsMergeToTheHistory : Type 0
LogsMergeToTheHistory = (history : List Entry) (logs : List (List Entry)) → length logs ≡ 9 → AreLogs (λ entry. owner_of entry.event) history logs → IsMerge logs history
