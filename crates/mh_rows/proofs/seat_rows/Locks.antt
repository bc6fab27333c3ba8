-- Calls that take a value from under a lock and give it back, and locks and their tables that keep the rule or do not.
use Rattle.std.proofs.Common.{[], arith, get_or, inl, inr, List, lit<, None, Option, refl, Some, ℕ, ◌<◌, ◌∷◌, ◌≡◌, ◌≢◌, ⊎_elim}
use Rattle.std.proofs.lemmas.List.Elements.{All-cons, All-nil}
use mathlib.Core.Option.{none, some}
use lib.ListN.{get_elem?}
use Rattle.atomic_table.specs.Table.{State}
use Rattle.mh_model.specs.History.{AreLogs, IsKeptBy, LockState, owned_by, with_give, with_take}
use Rattle.mh_seat_laws.specs.{Lock.{Fits, IsLocked}, declared.seat_view.FoundValue.FoundValue}
use Rattle.mh_seat_laws.specs.declared.seat_view.SeatView.{SeatView}

-- an entry is the number of its seat
abbrev owner : ℕ → ℕ
owner entry = entry

-- a lock of two seats over a value with one entry of the first
abbrev at_home : LockState ℕ
at_home = record { word = 0; home = Some (0 ∷ []); logs = (0 ∷ []) ∷ [] ∷ []; taken = None ∷ None ∷ [] }

-- the same, while the second seat has the value
abbrev out : LockState ℕ
out = record { word = 1; home = None; logs = (0 ∷ []) ∷ [] ∷ []; taken = None ∷ Some (0 ∷ []) ∷ [] }

-- Calls ------------------------------------------------------------------------------------------

-- a seat that finds the value at home takes it
-- refuses: a value that is taken stays at home
pub taken : with_take at_home 1 ≡ out
taken = refl

-- a seat that does not find the value at home changes nothing
-- refuses: a try that finds the value gone raises the word
pub tried : with_take out 0 ≡ out
tried = refl

-- the word says whether it is at home
-- refuses: a try takes the value from the other seat; a try that finds the value gone raises the word
pub tried_by_the_word : with_take (record at_home { word = 1 }) 1 ≡ record at_home { word = 1 }
tried_by_the_word = refl

-- the value comes back with the entry of the call, which the seat's log gets too
-- refuses: the value gets its entry first; the log gets no entry
pub given_with_entry : with_give out 1 (Some 1) ≡ record at_home { home = Some (0 ∷ 1 ∷ []); logs = (0 ∷ []) ∷ (1 ∷ []) ∷ [] }
given_with_entry = refl

-- an entry is the last of the value and of the log
-- refuses: a log gets its entry first
pub given_after_others : with_give (with_take at_home 0) 0 (Some 7) ≡ record at_home { home = Some (0 ∷ 7 ∷ []); logs = (0 ∷ 7 ∷ []) ∷ [] ∷ [] }
given_after_others = refl

-- a value that comes back from a call without an entry is as it was, and so is the log
-- refuses: a seat that gives keeps what it found
pub given_without_entry : with_give out 1 None ≡ at_home
given_without_entry = refl

-- Locks ------------------------------------------------------------------------------------------

logs_at_home : AreLogs owner (0 ∷ []) at_home.logs
logs_at_home is = grind arith

nobody_at_home : (seat : ℕ) → get_or at_home.taken seat None ≡ None
nobody_at_home seat = grind arith

-- the value is at home, and each log is what its seat owns
-- refuses: the word of a lock at home may be 1
pub kept_at_home : IsKeptBy owner at_home
kept_at_home = inl record { seats = refl; word = refl; history = 0 ∷ []; home = refl; nobody = nobody_at_home; logs = logs_at_home }

nobody_else : (seat : ℕ) → seat ≢ 1 → get_or out.taken seat None ≡ None
nobody_else seat other = grind arith

-- one seat has the value and knows what it found, and each log is what its seat owns of that
-- refuses: a value may be at home and out
pub kept_out : IsKeptBy owner out
kept_out = inr record { seats = refl; word = refl; home = refl; history = 0 ∷ []; holder = 1; found = refl; others = nobody_else; logs = logs_at_home }

other_log : (logs : List (List ℕ)) (seat : ℕ) → ¬ (get_or logs seat [] ≡ owned_by owner seat (0 ∷ [])) → ¬ IsKeptBy owner (record at_home { logs = logs })
other_log logs seat differs kept = grind arith

-- a lock whose log lacks its seat's entry does not keep the rule
-- refuses: logs may lack entries; logs may have other entries
pub log_without_its_entry : ¬ IsKeptBy owner (record at_home { logs = [] ∷ [] ∷ [] })
log_without_its_entry = other_log ([] ∷ [] ∷ []) 0 (λ same. let bad : [] ≡ 0 ∷ [] = same in cc)

-- a lock whose log has the entry of another seat does not keep the rule
-- refuses: logs may lack entries; logs may have other entries
pub log_with_anothers_entry : ¬ IsKeptBy owner (record at_home { logs = (0 ∷ []) ∷ (0 ∷ []) ∷ [] })
log_with_anothers_entry = other_log ((0 ∷ []) ∷ (0 ∷ []) ∷ []) 1 (λ same. let bad : 0 ∷ [] ≡ [] = same in cc)

-- a lock whose value is at home and out does not keep the rule
-- refuses: a value may be at home and out; the word of a lock at home may be 1
pub at_home_and_out : ¬ IsKeptBy owner (record out { home = Some (0 ∷ []) })
at_home_and_out kept = ⊎_elim (λ home. let word : 1 ≡ 0 = home.word in omega arith) (λ away. let none : Some (0 ∷ []) ≡ None = away.home in cc) kept

-- a lock whose word says that the value is out, though it is at home, does not keep the rule
-- refuses: a value may be at home and out; the word of a lock at home may be 1
pub wrong_word : ¬ IsKeptBy owner (record at_home { word = 1 })
wrong_word kept = ⊎_elim (λ home. let word : 1 ≡ 0 = home.word in omega arith) (λ away. let none : Some (0 ∷ []) ≡ None = away.home in cc) kept

-- Tables -----------------------------------------------------------------------------------------

-- a value has entries and a number as its origin
abbrev entries : List ℕ × ℕ → List ℕ
entries value = value.0

abbrev origin : List ℕ × ℕ → ℕ
origin value = value.1

abbrev IsLockedTable : ℕ × ℕ → State (List ℕ × ℕ) (SeatView ℕ ℕ) → Type 0
IsLockedTable about table = IsLocked owner entries origin about table

-- what a seat knows that stands for two, of which the first has an entry
abbrev both_seats : Option (FoundValue ℕ ℕ) → SeatView ℕ ℕ
both_seats found = record { logs = (0, 0 ∷ []) ∷ (1, []) ∷ []; found = found }

-- and when it has the value, which has an origin
abbrev with_value : ℕ → SeatView ℕ ℕ
with_value start = both_seats (Some (record { history = 0 ∷ []; origin = start }))

-- the origin that a seat found, or 0
abbrev start_in : Option (FoundValue ℕ ℕ) → ℕ
start_in None = 0
start_in (Some found) = found.origin

only_view : (P : SeatView ℕ ℕ → Type 0) (seat : SeatView ℕ ℕ) → P seat → (id : ℕ) (view : SeatView ℕ ℕ) → get_elem? (seat ∷ []) id ≡ some view → P view
only_view P seat holds id view there = grind arith

only_seat : (seat : SeatView ℕ ℕ) (id : ℕ) (view : SeatView ℕ ℕ) → get_elem? (seat ∷ []) id ≡ some view → id ≡ 0
only_seat seat id view there = grind arith

-- the value at home, with the origin 7
abbrev table_at_home : State (List ℕ × ℕ) (SeatView ℕ ℕ)
table_at_home = record { words = 0 ∷ []; homes = some (0 ∷ [], 7) ∷ []; views = both_seats None ∷ [] }

-- the value with the seat, which found an origin
abbrev out_from : ℕ → State (List ℕ × ℕ) (SeatView ℕ ℕ)
out_from start = record { words = 1 ∷ []; homes = none ∷ []; views = with_value start ∷ [] }

-- the value is at home with the lock's origin
pub table_kept_at_home : IsLockedTable (2, 7) table_at_home
table_kept_at_home = record {
  words = refl;
  slots = refl;
  numbers = λ h. omega arith;
  place = inl record {
    word = refl;
    value = (0 ∷ [], 7);
    at_home = refl;
    same_origin = refl;
    fits = only_view (λ view. Fits owner (0 ∷ []) view.logs) (both_seats None) (refl, (refl, tt));
    owned_all = All-cons (λ entry. entry < 2) 0 [] (lit< tt) (All-nil (λ entry. entry < 2));
    nobody = only_view (λ view. view.found ≡ None) (both_seats None) refl;
  };
}

-- one seat has the value, which it found with the lock's origin
pub table_kept_out : IsLockedTable (2, 7) (out_from 7)
table_kept_out = record {
  words = refl;
  slots = refl;
  numbers = λ h. omega arith;
  place = inr record {
    word = refl;
    history = 0 ∷ [];
    holder = 0;
    view = with_value 7;
    holder_view = refl;
    found = refl;
    some_log = lit< tt;
    fits = only_view (λ view. Fits owner (0 ∷ []) view.logs) (with_value 7) (refl, (refl, tt));
    owned_all = All-cons (λ entry. entry < 2) 0 [] (lit< tt) (All-nil (λ entry. entry < 2));
    others = λ id view there apart. absurd (apart (only_seat (with_value 7) id view there));
  };
}

-- a table with a value of another origin at home does not keep the rule
-- refuses: a rule that says nothing of the origin of a value at home
pub another_at_home : ¬ IsLockedTable (2, 8) table_at_home
another_at_home kept = grind arith

-- a table whose holder found a value of another origin does not keep the rule
-- refuses: a holder may have found any origin
pub another_found : ¬ IsLockedTable (2, 7) (out_from 8)
another_found kept = grind (arith, only_view)
