-- What the steps at the word of the lock tell the seat that takes them.
use Rattle.std.specs.Prelude.{◌≡◌, ◌≢◌, ℕ, zero, suc, ◌<◌, List, [], ◌∷◌, Option, Some, None, IfSome, get_or, length}
use Rattle.atomic_table.specs.Table.{Me, Step}
use Rattle.mh_model.specs.History.{LockState, owned_by, IsAtHome}
use Rattle.mh_seat_laws.specs.{Lock.{Logs, first}, declared.seat_view.FoundValue.FoundValue}
use Rattle.mh_seat_laws.specs.declared.seat_view.SeatView.{SeatView}

-- so many logs without an entry, numbered from k on
abbrev pub empty_logs : {E : Type 0} → ℕ → ℕ → Logs E
empty_logs k zero = []
empty_logs k (suc n) = (k, []) ∷ empty_logs (suc k) n

module _ {E O : Type 0} where
  -- logs, and what was found of the value
  abbrev pub seat_view : Logs E → Option (FoundValue E O) → SeatView E O
  seat_view logs found = record { logs = logs; found = found }

  -- what the first seat knows, which stands for all
  abbrev pub all_seats : ℕ × O → SeatView E O
  all_seats about = seat_view (empty_logs 0 about.0) None

module _ {T E O : Type 0} where
  -- the number and the log of a seat that stands for itself alone
  abbrev pub number_in : Me T (SeatView E O) → ℕ
  number_in me = (first me.0.logs).0

  abbrev pub log_in : Me T (SeatView E O) → List E
  log_in me = (first me.0.logs).1

  -- such a seat, without the value
  abbrev pub alone : ℕ → List E → Me T (SeatView E O)
  alone number log = (seat_view ((number, log) ∷ []) None, [])

  -- such a seat, with the value, by what it found
  abbrev pub holding : ℕ → List E → FoundValue E O → T → Me T (SeatView E O)
  holding number log found value = (seat_view ((number, log) ∷ []) (Some found), (0, value) ∷ [])

-- the entries of the value that a seat has
abbrev pub held : {T E : Type 0} → (T → List E) → List (ℕ × T) → List E
held entries [] = []
held entries (slot ∷ slots) = entries slot.1

-- what a seat that takes the value finds of it
abbrev pub found_of : {T E O : Type 0} → (T → List E) → (T → O) → T → FoundValue E O
found_of entries origin value = record { history = entries value; origin = origin value }

-- a history was at home in a lock of the model with so many logs, among which a seat's stands at its number
pub record WasAtHome {E : Type 0} (owner : E → ℕ) (seats number : ℕ) (log history : List E) : Type 0 where
  pub state : LockState E
  pub kept : IsAtHome owner state
  pub home : state.home ≡ Some history
  pub many : length state.logs ≡ seats
  pub inside : number < seats
  pub there : get_or state.logs number [] ≡ log

module _ {T E O : Type 0} (owner : E → ℕ) (entries : T → List E) (origin : T → O) where
  -- A seat of a lock with so many seats has the value that was at home, of the lock's origin, and found its entries. Its log is what it owns of them
  abbrev pub HasTaken : ℕ × O → Me T (SeatView E O) → Me T (SeatView E O) → Type 0
  HasTaken about before after =
      (value : T)
      × (after ≡ holding (number_in before) (log_in before) (found_of entries origin value) value)
      × (log_in before ≡ owned_by owner (number_in before) (entries value))
      × (origin value ≡ about.1)
      × WasAtHome owner about.0 (number_in before) (log_in before) (entries value)

  -- A try to take the value: if 0 was found the seat has it, and else nothing has changed
  abbrev pub Takes : Option (ℕ × O) → Step T → Me T (SeatView E O) → ℕ → Me T (SeatView E O) → Type 0
  Takes about step before found after = (found ≡ 0 → IfSome about (λ key. HasTaken key before after)) × (found ≢ 0 → after ≡ before)

  -- The value is given back, and the log is what the seat owns of it
  abbrev pub Gives : Step T → Me T (SeatView E O) → ℕ → Me T (SeatView E O) → Type 0
  Gives step before found after = after ≡ alone (number_in before) (owned_by owner (number_in before) (held entries before.1))
