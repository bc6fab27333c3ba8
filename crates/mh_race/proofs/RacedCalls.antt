-- What the history of a race has of each seat's calls.
use Rattle.std.proofs.Common.{arith, ◌≡◌, ◌≤◌, ◌<◌, ◌==◌, ◌+◌, ⊎_elim, ℕ, Bool, true, false, List, [], ◌∷◌, ◌++◌, Option, None, Some, All, count_by, get_or, length, length-append, append-nil, refl, sym, ap, ◌∙◌, subst, cond}
use Rattle.std.proofs.{lemmas.Bool.eqb-true, lemmas.Bool.Decides.leb_tells}
use Rattle.std.proofs.{lemmas.List.Elements.{All-contains, All-head, All-tail}, lemmas.Option.none-some}
use Rattle.std.proofs.lemmas.List.Sums.{sum_by-cons}
use Rattle.mh_lock.specs.Seats.{LockSeatView}
use Rattle.mh_model.specs.{declared.command.Event.Event, declared.history.Entry.Entry}
use Rattle.mh_model.specs.History.{owner_of, owned_by, events_of}
use Rattle.mh_machine.specs.declared.machine.Stop.{Stop}
use Rattle.mh_service.specs.Services.{ServiceView}
use Rattle.mh_race.specs.Auxiliary.{AreRun}
use Rattle.mh_race.specs.Racing.{AreStopped, BeginsItsCalls, HasMadeItsCalls, MakesTheCalls, NoneStopped, StoppedAtARefusal, WasRefused}

-- an element that a test finds
record Found {X : Type 0} (P : X → Type 0) (p : X → Bool) : Type 0 where
  pub x : X
  pub holds : P x
  pub passes : p x ≡ true

find : {X : Type 0} (P : X → Type 0) (p : X → Bool) (xs : List X) → All P xs → 0 < count_by p xs → Found P p
find P p [] all some = absurd (omega (arith, some))
find P p (x ∷ xs) all some = go (p x) refl (λ later. find P p xs (All-tail P x xs all) later)
  where
    go : (b : Bool) → p x ≡ b → (0 < count_by p xs → Found P p) → Found P p
    go true is later = record { x = x; holds = All-head P x xs all; passes = is }
    go false is later = let more : 0 < cond false 1 0 + count_by p xs = subst (λ b. 0 < cond b 1 0 + count_by p xs) is (subst (λ n. 0 < n) (sum_by-cons (λ y. cond (p y) 1 0) x xs) some) in later (omega (arith, more))

-- the events of the entries that a seat owns
owned-events : (seat : ℕ) (history : List Entry) → events_of (owned_by (λ entry. owner_of entry.event) seat history) ≡ owned_by owner_of seat (events_of history)
owned-events seat [] = refl
owned-events seat (entry ∷ history) = by (owner_of entry.event == seat) ∙ ap (λ es. cond (owner_of entry.event == seat) (entry.event ∷ es) es) (owned-events seat history)
  where
    rest : List Entry
    rest = owned_by (λ e. owner_of e.event) seat history

    by : (b : Bool) → events_of (cond b (entry ∷ rest) rest) ≡ cond b (entry.event ∷ events_of rest) (events_of rest)
    by true = refl
    by false = refl

-- a number that owns nothing
owned-none : (owner : Event → ℕ) (bound seat : ℕ) → ((event : Event) → owner event ≤ bound) → bound < seat → (events : List Event) → owned_by owner seat events ≡ []
owned-none owner bound seat few above [] = refl
owned-none owner bound seat few above (event ∷ events) = go (owner event == seat) refl (owned-none owner bound seat few above events)
  where
    go : (b : Bool) → (owner event == seat) ≡ b → owned_by owner seat events ≡ [] → cond (owner event == seat) (event ∷ owned_by owner seat events) (owned_by owner seat events) ≡ []
    go true is none = absurd (omega (arith, eqb-true (owner event) seat is, few event, above))
    go false is none = subst (λ b. cond b (event ∷ owned_by owner seat events) (owned_by owner seat events) ≡ []) (sym is) none

-- what the history has of one seat's calls: all, or those before one that was refused
abbrev HasCalls : List Event → List Event → Option Stop → ℕ → Type 0
HasCalls events done None seat = owned_by owner_of seat done ≡ owned_by owner_of seat events
HasCalls events done (Some stop) seat = (refused : Event) × (later : List Event) × (owned_by owner_of seat done ++ refused ∷ later ≡ owned_by owner_of seat events)

module _ (one_owner : (event : Event) → owner_of event ≤ 8) (service : ServiceView) (events : List Event) (stops : List (Option Stop)) (seats : List (LockSeatView Entry)) (history : List Entry)
    (run : AreRun (WasRefused service) events stops seats) (logs : All (λ seat. seat.log ≡ owned_by (λ entry. owner_of entry.event) seat.number history) seats)
    (numbers : (number : ℕ) → number < 9 → count_by (λ seat. seat.number == number) seats ≡ 1) where
  -- the events in a seat's log are its part of the history
  log-events : (seat : LockSeatView Entry) → seat.log ≡ owned_by (λ entry. owner_of entry.event) seat.number history → events_of seat.log ≡ owned_by owner_of seat.number (events_of history)
  log-events seat log = ap events_of log ∙ owned-events seat.number history

  of-seat : (refused : Option Stop) (number : ℕ) (seat : LockSeatView Entry) → HasMadeItsCalls (WasRefused service) events refused seat → seat.log ≡ owned_by (λ entry. owner_of entry.event) seat.number history → seat.number ≡ number → HasCalls events (events_of history) refused number
  of-seat None number seat made log is = subst (HasCalls events (events_of history) None) is (sym (log-events seat log) ∙ made)
  of-seat (Some stop) number seat made log is = subst (HasCalls events (events_of history) (Some stop)) is (made.0, made.1, ap (λ es. es ++ made.0 ∷ made.1) (sym (log-events seat log)) ∙ made.2)

  -- a seat of this number has run all its events, and its log is its part of the history
  abbrev Made : ℕ → LockSeatView Entry → Type 0
  Made number seat = (seat.number ≡ number → HasMadeItsCalls (WasRefused service) events None seat) × (seat.log ≡ owned_by (λ entry. owner_of entry.event) seat.number history)

  whole-below : (number : ℕ) → get_or stops number None ≡ None → number < 9 → HasCalls events (events_of history) None number
  whole-below number none below =
      let found = find (Made number) (λ seat. seat.number == number) seats (λ k d lt. (run.none number below none k d lt, logs k d lt)) (omega (arith, numbers number below)) in
      let same = eqb-true found.x.number number found.passes in
      of-seat None number found.x (found.holds.0 same) found.holds.1 same

  -- a seat that was stopped has a number
  pub stopped-at : (number : ℕ) (stop : Stop) → get_or stops number None ≡ Some stop → StoppedAtARefusal service events history number stop
  stopped-at number stop is = ⊎_elim (λ within. short-below (omega (arith, within.1))) (λ past. absurd (none-some stop (sym (run.above number past.1) ∙ is))) (leb_tells number 8)
    where
      short-below : number < 9 → StoppedAtARefusal service events history number stop
      short-below below =
          let found = run.some number stop below is in
          let log = All-contains (λ seat. seat.log ≡ owned_by (λ entry. owner_of entry.event) seat.number history) seats found.0 logs found.1 in
          record { seat = found.0; number_is = found.2; log_is = subst (λ n. found.0.log ≡ owned_by (λ entry. owner_of entry.event) n history) found.2 log; calls = found.3 }

  whole-above : (number : ℕ) → 8 < number → HasCalls events (events_of history) None number
  whole-above number above = owned-none owner_of 8 number one_owner above (events_of history) ∙ sym (owned-none owner_of 8 number one_owner above events)

  calls-at : (number : ℕ) (refused : Option Stop) → get_or stops number None ≡ refused → HasCalls events (events_of history) refused number
  calls-at number None is = ⊎_elim (λ within. whole-below number is (omega (arith, within.1))) (λ past. whole-above number past.1) (leb_tells number 8)
  calls-at number (Some stop) is =
      let at = stopped-at number stop is in
      of-seat (Some stop) number at.seat at.calls (subst (λ n. at.seat.log ≡ owned_by (λ entry. owner_of entry.event) n history) (sym at.number_is) at.log_is) at.number_is

  begun : (number : ℕ) (refused : Option Stop) → HasCalls events (events_of history) refused number → (left : List Event) × (owned_by owner_of number (events_of history) ++ left ≡ owned_by owner_of number events)
  begun number None calls = ([], append-nil (owned_by owner_of number (events_of history)) ∙ calls)
  begun number (Some stop) calls = (calls.0 ∷ calls.1, calls.2)

  pub calls-begun : BeginsItsCalls events (events_of history)
  calls-begun = λ number. begun number (get_or stops number None) (calls-at number (get_or stops number None) refl)

  -- a seat that was refused a call has made fewer
  never-whole : (done : List Event) (refused : Event) (later all : List Event) → done ++ refused ∷ later ≡ all → done ≡ all → ⊥
  never-whole done refused later all short whole = omega (arith, ap length short, ap length whole, length-append done (refused ∷ later))

  whole-stop : (number : ℕ) (refused : Option Stop) → get_or stops number None ≡ refused → owned_by owner_of number (events_of history) ≡ owned_by owner_of number events → get_or stops number None ≡ None
  whole-stop number None is whole = is
  whole-stop number (Some stop) is whole = let calls = calls-at number (Some stop) is in absurd (never-whole (owned_by owner_of number (events_of history)) calls.0 calls.1 (owned_by owner_of number events) calls.2 whole)

  pub calls-stopped : AreStopped events (events_of history) stops
  calls-stopped = λ number. (λ none. calls-at number None none, λ whole. whole-stop number (get_or stops number None) refl whole)

-- if no seat was stopped each has made all of its calls
pub makes-all : (events done : List Event) (stops : List (Option Stop)) → AreStopped events done stops → NoneStopped stops → MakesTheCalls events done
makes-all events done stops stopped none = λ seat. (stopped seat).0 (none seat)
