-- The rule of the lock, of a table of one word and one slot as `atomic_table` keeps it; and the lock of the model that the table shows. The rule is
-- about the lock's number of seats and the origin of its value. The crate of the lock, `mh_lock`, cites it.
-- The value shows an origin beside its entries, which no call changes: for a service the configuration of its state. So at its close a service knows
-- that the state has the configuration with which it was opened.
use Rattle.std.specs.Prelude.{◌≡◌, ◌≢◌, ℕ, ◌+◌, ◌<◌, ◌⊎◌, List, [], ◌∷◌, All, Some, None, get_or, length, slice_index, slice_index_or}
use mathlib.Core.Option.{some}
use lib.ListN.{get_elem?}
use Rattle.atomic_table.specs.Table.{State}
use Rattle.mh_model.specs.History.{LockState, owned_by}
use Rattle.mh_seat_laws.specs.{Weights.{weigh_below, total}, declared.seat_view.FoundValue.FoundValue}
use Rattle.mh_seat_laws.specs.declared.seat_view.SeatView.{SeatView}

-- the number and the log of each seat
abbrev pub Logs : Type 0 → Type 0
Logs E = List (ℕ × List E)

module _ {E : Type 0} where
  -- the weights of the numbers of seats, added up
  abbrev pub weigh_numbers : (ℕ → ℕ) → Logs E → ℕ
  weigh_numbers h [] = 0
  weigh_numbers h (l ∷ ls) = h l.0 + weigh_numbers h ls

  -- the number and the log of a seat that stands for itself alone
  abbrev pub first : Logs E → ℕ × List E
  first logs = slice_index_or logs 0 (0, [])

  -- logs stand among the lock's, each at its seat's number
  abbrev pub StandIn : List (List E) → Logs E → Type 0
  StandIn all [] = Unit {0}
  StandIn all (l ∷ ls) = (get_or all l.0 [] ≡ l.1) × StandIn all ls

module _ {E : Type 0} (owner : E → ℕ) where
  -- logs of which each is what its seat owns of the history
  abbrev pub Fits : List E → Logs E → Type 0
  Fits history [] = Unit {0}
  Fits history (l ∷ ls) = (l.1 ≡ owned_by owner l.0 history) × Fits history ls

  -- the logs that all seats know are so
  abbrev pub AllFit : {O : Type 0} → List E → List (SeatView E O) → Type 0
  AllFit {O} history views = (id : ℕ) (view : SeatView E O) → get_elem? views id ≡ some view → Fits history view.logs

  -- each entry belongs to one of the seats
  abbrev pub AllOwned : ℕ → List E → Type 0
  AllOwned seats history = All (λ e. owner e < seats) history

  module _ {T O : Type 0} (entries : T → List E) (origin : T → O) where
    -- with the word 0 the value is at home with its origin, and no seat has it. Each log is what its seat owns of the value's entries, and one of the
    -- seats owns each entry
    pub record HasHome (about : ℕ × O) (table : State T (SeatView E O)) : Type 0 where
      pub word : slice_index table.words 0 ≡ 0
      pub value : T
      pub at_home : get_elem? table.homes 0 ≡ some (some value)
      pub same_origin : origin value ≡ about.1
      pub fits : AllFit (entries value) table.views
      pub owned_all : AllOwned about.0 (entries value)
      pub nobody : (id : ℕ) (view : SeatView E O) → get_elem? table.views id ≡ some view → view.found ≡ None

    -- with the word 1 one seat alone has the value, and knows the history and the origin that it found. Each log is what its seat owns of that
    -- history, and one of the seats owns each entry
    pub record HasHolder (about : ℕ × O) (table : State T (SeatView E O)) : Type 0 where
      pub word : slice_index table.words 0 ≡ 1
      pub history : List E
      pub holder : ℕ
      pub view : SeatView E O
      pub holder_view : get_elem? table.views holder ≡ some view
      pub found : view.found ≡ Some (record { history = history; origin = about.1 })
      pub some_log : 0 < length view.logs
      pub fits : AllFit history table.views
      pub owned_all : AllOwned about.0 history
      pub others : (id : ℕ) (view : SeatView E O) → get_elem? table.views id ≡ some view → id ≢ holder → view.found ≡ None

    -- The rule, about how many seats there are and the origin: the value is at home or one seat has it; each log is what its seat owns of the
    -- history, which has no other entries; and there is one log for each seat's number. That is said by weights: whatever the numbers weigh, those of
    -- all logs weigh what those of the seats weigh
    pub record IsLocked (about : ℕ × O) (table : State T (SeatView E O)) : Type 0 where
      pub words : length table.words ≡ 1
      pub slots : length table.homes ≡ 1
      pub numbers : (h : ℕ → ℕ) → total (λ view. weigh_numbers h view.logs) table.views ≡ weigh_below h about.0
      pub place : HasHome about table ⊎ HasHolder about table

-- the lock of the model that a table shows: the same word; each log at its seat's number; the history that a holder found, as taken at its number;
-- and the entries of a value at home
pub record Shows {T E O : Type 0} (entries : T → List E) (seats : ℕ) (table : State T (SeatView E O)) (lock : LockState E) : Type 0 where
  pub word : lock.word ≡ slice_index table.words 0
  pub many : length lock.logs ≡ seats
  pub logs : (id : ℕ) (view : SeatView E O) → get_elem? table.views id ≡ some view → StandIn lock.logs view.logs
  pub taken : (id : ℕ) (view : SeatView E O) (found : FoundValue E O) → get_elem? table.views id ≡ some view → view.found ≡ Some found → get_or lock.taken (first view.logs).0 None ≡ Some found.history
  pub home : (value : T) → lock.word ≡ 0 → get_elem? table.homes 0 ≡ some (some value) → lock.home ≡ Some (entries value)
