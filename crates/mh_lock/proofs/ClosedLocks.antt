-- Where all logs have come to one seat, the value is at home and each log is what its seat owns.
use Rattle.std.proofs.Common.{arith, ◌≡◌, ℕ, zero, suc, ◌<◌, ◌==◌, cond, All, None, List, [], ◌∷◌, ◌++◌, length, get_or, set, map, count_by, sym, refl, ap, ◌∙◌, subst, ⊎_elim}
use Rattle.std.proofs.lemmas.List.Sums.{sum_by-cons}
use mathlib.Core.Option.{some}
use lib.ListN.{get_elem?}
use Rattle.atomic_table.specs.Table.{State, Seen}
use Rattle.mh_model.specs.History.{LockState, owned_by, IsAtHome, IsOut}
use Rattle.mh_seat_laws.specs.Weights.{weigh_below, total}
use Rattle.mh_seat_laws.specs.Lock.{Logs, weigh_numbers, StandIn, Fits, AllOwned, HasHome, HasHolder, IsLocked, Shows}
use Rattle.mh_seat_laws.specs.declared.seat_view.SeatView.{SeatView}
use Rattle.mh_seat_laws.proofs.{TotalLemmas.total-set, lock.ShownLocks.{shown_lock, is}}
use Rattle.mh_lock.specs.{Seats.{LockView, LockSeatView, IsKeptAtHome}, Steps.seat_view}
use Rattle.mh_lock.proofs.SeatNumbers.{two_parts-of_total, one-below, ones-below, ones-weigh_length, views-none}

module _ {X E : Type 0} (seat_of : X → LockSeatView E) where
  -- the numbers and the logs of seats, in their order
  abbrev pub logs_of : List X → Logs E
  logs_of [] = []
  logs_of (x ∷ xs) = ((seat_of x).number, (seat_of x).log) ∷ logs_of xs

  -- the log of the last seat may stand before others instead
  pub logs_of-pop : (seats : List X) (last : X) (logs : Logs E) → logs_of seats ++ (((seat_of last).number, (seat_of last).log) ∷ logs) ≡ logs_of (seats ++ last ∷ []) ++ logs
  logs_of-pop [] last logs = refl
  logs_of-pop (seat ∷ seats) last logs = ap (λ (rest : Logs E). ((seat_of seat).number, (seat_of seat).log) ∷ rest) (logs_of-pop seats last logs)

  logs_of-length : (seats : List X) → length (logs_of seats) ≡ length seats
  logs_of-length [] = refl
  logs_of-length (seat ∷ seats) = ap suc (logs_of-length seats)

  logs_of-count : (number : ℕ) (seats : List X) → weigh_numbers (is number) (logs_of seats) ≡ count_by (λ seat. (seat_of seat).number == number) seats
  logs_of-count number [] = refl
  logs_of-count number (seat ∷ seats) = omega (arith, sum_by-cons (λ s. cond ((seat_of s).number == number) 1 0) seat seats, logs_of-count number seats)

  logs_of-fit : (owner : E → ℕ) (history : List E) (seats : List X) → Fits owner history (logs_of seats) → All (λ seat. (seat_of seat).log ≡ owned_by owner (seat_of seat).number history) seats
  logs_of-fit owner history [] fits k other below = absurd (omega arith)
  logs_of-fit owner history (seat ∷ seats) fits zero other below = fits.0
  logs_of-fit owner history (seat ∷ seats) fits (suc k) other below = logs_of-fit owner history seats fits.1 k other (omega arith)

  logs_of-stand : (logs : List (List E)) (seats : List X) → StandIn logs (logs_of seats) → All (λ seat. get_or logs seat.number [] ≡ seat.log) (map seat_of seats)
  logs_of-stand logs [] stand k other below = absurd (omega arith)
  logs_of-stand logs (seat ∷ seats) stand zero other below = stand.0
  logs_of-stand logs (seat ∷ seats) stand (suc k) other below = logs_of-stand logs seats stand.1 k other (omega arith)

  -- what the end of a lock says
  pub record Tells {O : Type 0} (owner : E → ℕ) (lock : LockView O) (seats : List X) (history : List E) (origin : O) : Type 0 where
    pub numbers : (number : ℕ) → number < lock.seats → count_by (λ seat. (seat_of seat).number == number) seats ≡ 1
    pub logs : All (λ seat. (seat_of seat).log ≡ owned_by owner (seat_of seat).number history) seats
    pub owned : AllOwned owner lock.seats history
    pub kept : IsKeptAtHome owner lock (map seat_of seats) history
    pub same_origin : origin ≡ lock.origin

  module _ {T O : Type 0} (owner : E → ℕ) (entries : T → List E) (origin : T → O) (lock : LockView O) (seats : List X) (table : State T (SeatView E O)) (id : ℕ) (view : SeatView E O)
      (seen : Seen (IsLocked owner entries origin (lock.seats, lock.origin)) id view table) (logs : view.logs ≡ logs_of seats) (all : length seats ≡ lock.seats) where
    whole : length view.logs ≡ lock.seats
    whole = ap length logs ∙ (logs_of-length seats ∙ all)

    ones : total (λ v. weigh_numbers (λ _. 1) v.logs) table.views ≡ lock.seats
    ones = seen.0.numbers (λ _. 1) ∙ ones-below lock.seats

    -- no other seat has a log
    no_holder : HasHolder owner entries origin (lock.seats, lock.origin) table → view.found ≡ None → ⊥
    no_holder out free = grind (arith, two_parts-of_total, ones, whole, ones-weigh_length)

    weighed : (h : ℕ → ℕ) → weigh_numbers h view.logs ≡ weigh_below h lock.seats
    weighed h =
        let rest : List (SeatView E O) = set table.views id (seat_view [] None) in
        let none : total (λ v. weigh_numbers (λ _. 1) v.logs) rest ≡ 0
        = omega (arith, total-set (λ v. weigh_numbers (λ _. 1) v.logs) table.views id view (seat_view [] None) seen.1, ones, whole, ones-weigh_length view.logs) in
        omega (arith, total-set (λ v. weigh_numbers h v.logs) table.views id view (seat_view [] None) seen.1, views-none h rest none, seen.0.numbers h)

    kept-at_home : (home : HasHome owner entries origin (lock.seats, lock.origin) table) → IsKeptAtHome owner lock (map seat_of seats) (entries home.value)
    kept-at_home home =
        let shown = shown_lock owner entries origin (lock.seats, lock.origin) table seen.0 in
        let state : LockState E = shown.0 in
        let shows : Shows entries lock.seats table state = shown.2 in
        let word : state.word ≡ 0 = shows.word ∙ home.word in record {
          state = state;
          kept = ⊎_elim (λ (k : IsAtHome owner state). k) (λ (out : IsOut owner state). let one = out.word in absurd (omega arith)) shown.1;
          home = shows.home home.value word home.at_home;
          many = shows.many;
          logs = logs_of-stand state.logs seats (subst (StandIn state.logs) logs (shows.logs id view seen.1));
        }

    closed-home : (home : HasHome owner entries origin (lock.seats, lock.origin) table) → Tells owner lock seats (entries home.value) (origin home.value)
    closed-home home = record {
      numbers = λ number below. sym (logs_of-count number seats) ∙ (ap (weigh_numbers (is number)) (sym logs) ∙ (weighed (is number) ∙ one-below number lock.seats below));
      logs = logs_of-fit owner (entries home.value) seats (subst (Fits owner (entries home.value)) logs (home.fits id view seen.1));
      owned = home.owned_all;
      kept = kept-at_home home;
      same_origin = home.same_origin;
    }

    pub closed-tells : view.found ≡ None → (value : T) → ((other : T) → get_elem? table.homes 0 ≡ some (some other) → other ≡ value) → Tells owner lock seats (entries value) (origin value)
    closed-tells free value same = ⊎_elim
        (λ home. subst (λ (v : T). Tells owner lock seats (entries v) (origin v)) (same home.value home.at_home) (closed-home home))
        (λ out. absurd (no_holder out free))
        seen.0.place
