-- A lock and its seats as contracts see them.
use Rattle.std.specs.Prelude.{◌≡◌, ℕ, List, [], ◌++◌, All, Option, Some, None, option_to_list, Result, Ok, Err, get_or, length}
use Rattle.atomic_table.specs.Seated.{TableId}
use Rattle.mh_model.specs.History.{LockState, owned_by, with_take, with_give, IsAtHome, IsOut}

-- A lock: the table of its word, how many seats it has, and the origin of its value
pub record LockView (O : Type 0) : Type 0 where
  pub table : TableId
  pub seats : ℕ
  pub origin : O

-- A seat: the table of its lock, its number, and the entries of its own calls, in order
pub record LockSeatView (E : Type 0) : Type 0 where
  pub table : TableId
  pub number : ℕ
  pub log : List E

-- a seat is one of this lock
abbrev pub IsOf : {O E : Type 0} → LockView O → LockSeatView E → Type 0
IsOf lock seat = seat.table ≡ lock.table

-- the seat of this lock that has a number, before its first call
abbrev pub new_seat : {O E : Type 0} → LockView O → ℕ → LockSeatView E
new_seat lock number = record { table = lock.table; number = number; log = [] }

-- The model's lock at home with a history, whose logs are those of seats
pub record IsKeptAtHome {O E : Type 0} (owner : E → ℕ) (lock : LockView O) (seats : List (LockSeatView E)) (history : List E) : Type 0 where
  pub state : LockState E
  pub kept : IsAtHome owner state
  pub home : state.home ≡ Some history
  pub many : length state.logs ≡ lock.seats
  pub logs : All (λ seat. get_or state.logs seat.number [] ≡ seat.log) seats

-- the entry of a call that was answered; one that was refused has none
abbrev pub entry_of_call : {R F E : Type 0} → (R → E) → Result R F → Option E
entry_of_call entry (Ok reply) = Some (entry reply)
entry_of_call entry (Err refusal) = None

-- The model's lock over a call of a seat: at home with the history found, and then taken by the seat; then given back with the entry of the call or
-- none, and at home with the history left
pub record IsTakenAndGiven {O E : Type 0} (owner : E → ℕ) (lock : LockView O) (before after : LockSeatView E) (found left : List E) (entry : Option E) : Type 0 where
  pub state : LockState E
  pub kept : IsAtHome owner state
  pub home : state.home ≡ Some found
  pub many : length state.logs ≡ lock.seats
  pub log : get_or state.logs before.number [] ≡ before.log
  pub out : IsOut owner (with_take state before.number)
  pub taken : get_or (with_take state before.number).taken before.number None ≡ Some found
  pub given : IsAtHome owner (with_give (with_take state before.number) before.number entry)
  pub home_given : (with_give (with_take state before.number) before.number entry).home ≡ Some left
  pub log_given : get_or (with_give (with_take state before.number) before.number entry).logs before.number [] ≡ after.log

-- What a call does, it does to the value that its seat found under the lock, and what that left is given back: each has the lock's origin, and the seat's log is what it owns of the one before the call and of the other after it
pub record IsDoneUnderLock {T E O : Type 0} (owner : E → ℕ) (entries : T → List E) (origin : T → O) (does : T → T → Type 0) (lock : LockView O) (before after : LockSeatView E) (entry : Option E) : Type 0 where
  pub found : T
  pub left : T
  pub done : does found left
  pub entries_left : entries left ≡ entries found ++ option_to_list entry
  pub origin_found : origin found ≡ lock.origin
  pub origin_left : origin left ≡ lock.origin
  pub log_found : before.log ≡ owned_by owner before.number (entries found)
  pub log_left : after.log ≡ owned_by owner after.number (entries left)
  pub states : IsTakenAndGiven owner lock before after (entries found) (entries left) entry
