-- What the seats of a race have run of its events, and which of them were refused one.
use Rattle.std.proofs.Common.{arith, ◌≡◌, ◌≢◌, ◌+◌, ◌<◌, ◌==◌, ◌⊎◌, inl, inr, ⊎_elim, ℕ, List, [], ◌∷◌, ◌++◌, Option, Some, None, All, Contains, get_or, length, map, replicate, take, drop, refl, sym, ap, ◌∙◌, subst, cond}
use Rattle.std.proofs.{lemmas.Bool.eq-eqb, lemmas.Bool.Decides.{eqb_tells, leb_tells}}
use Rattle.std.proofs.lemmas.List.{take-append-drop, take_more, map-append, drop_more, get_or-map, get_or-replicate, get_or_past, length-map, length-replicate}
use Rattle.std.proofs.lemmas.List.Elements.{All-append, All-contains, All-map, All-push, Contains-append_left, Contains-append_right, Contains-push, filter-append}
use Rattle.std.proofs.lemmas.Option.{none-some}
use Rattle.std.specs.Prelude.{Result, Ok, Err, IfErr, OnErr, IsErrOf}
use Rattle.mh_lock.specs.Seats.{LockSeatView}
use Rattle.mh_model.specs.{declared.command.Event.Event, declared.history.Entry.Entry, declared.reply.Reply.Reply}
use Rattle.mh_model.specs.History.{owner_of, owned_by, events_of}
use Rattle.mh_machine.specs.declared.machine.Stop.{Stop, TheVariants.NoMemory}
use Rattle.mh_race.specs.{Auxiliary.{AreNoted, AreRun, HasRunIn}, Racing.{HasMadeItsCalls, WasRefused}}
use Rattle.mh_race.specs.declared.racer.Racer.{Racer}
use Rattle.mh_service.specs.Services.{ServiceView, IsOfService, IsServed}

-- a service that refused a call refused it to the seat as it is
pub was-refused : (service : ServiceView) (old new : LockSeatView Entry) (event : Event) (answer : Result Reply Stop) → IsOfService service old → IsOfService service new → new.number ≡ old.number → OnErr answer (new.log ≡ old.log)
    → IsServed service old new event answer ⊎ (IsErrOf answer NoMemory × (new ≡ old)) → IfErr answer (λ stop. (new.log ≡ old.log) × WasRefused service new event stop)
was-refused service old new event (Ok reply) own left number log served = tt
was-refused service old new event (Err stop) own left number log served =
    let same : old ≡ new =
    ap (λ t. record { table = t; number = old.number; log = old.log }) (own ∙ sym left) ∙ ap (λ n. record { table = new.table; number = n; log = old.log }) (sym number) ∙ ap (λ l. record { table = new.table; number = new.number; log = l }) (sym log) in
    (log, ⊎_elim (λ found. inl (subst (λ seat. IsServed service seat new event (Err stop)) same found)) (λ starved. let is : IsErrOf {T = Reply} (Err stop) NoMemory = starved.0 in inr cc) served)

-- what is owned from an event on that is owned
owned-from : (seat : ℕ) (events : List Event) (i : ℕ) (d : Event) → i < length events → owner_of (get_or events i d) ≡ seat → owned_by owner_of seat events ≡ owned_by owner_of seat (take i events) ++ get_or events i d ∷ owned_by owner_of seat (drop (i + 1) events)
owned-from seat events i d within own =
    let rest : List Event = owned_by owner_of seat (drop (i + 1) events) in
    let first : owned_by owner_of seat (get_or events i d ∷ drop (i + 1) events) ≡ get_or events i d ∷ rest = ap (λ b. cond b (get_or events i d ∷ rest) rest) (eq-eqb (owner_of (get_or events i d)) seat own) in
    sym (ap (owned_by owner_of seat) (take-append-drop i events)) ∙ filter-append (λ e. owner_of e == seat) (take i events) (drop i events) ∙ ap (λ es. owned_by owner_of seat (take i events) ++ es) (ap (owned_by owner_of seat) (drop_more events i d within) ∙ first)

-- a seat that was refused an event has run those before it
pub refused-at : (Refused : LockSeatView Entry → Event → Stop → Type 0) (seat : LockSeatView Entry) (events : List Event) (i : ℕ) (d : Event) (stop : Stop) → i < length events → owner_of (get_or events i d) ≡ seat.number
    → events_of seat.log ≡ owned_by owner_of seat.number (take i events) → Refused seat (get_or events i d) stop → HasMadeItsCalls Refused events (Some stop) seat
refused-at Refused seat events i d stop within own made refused =
    (get_or events i d, owned_by owner_of seat.number (drop (i + 1) events), ap (λ es. es ++ get_or events i d ∷ owned_by owner_of seat.number (drop (i + 1) events)) made ∙ sym (owned-from seat.number events i d within own), refused)

-- a seat that has run those before an event and then runs it
pub ran-one : (old new : LockSeatView Entry) (events : List Event) (i : ℕ) (d : Event) (reply : Reply) → i < length events → owner_of (get_or events i d) ≡ old.number → new.number ≡ old.number → new.log ≡ old.log ++ record { event = get_or events i d; reply = reply } ∷ []
    → events_of old.log ≡ owned_by owner_of old.number (take i events) → events_of new.log ≡ owned_by owner_of new.number (take (i + 1) events)
ran-one old new events i d reply within own same log made =
    let event = get_or events i d in
    let before : List Event = owned_by owner_of old.number (take i events) in
    let entry : Entry = record { event = event; reply = reply } in
    let owned : owned_by owner_of old.number (take (i + 1) events) ≡ before ++ event ∷ [] =
    ap (owned_by owner_of old.number) (take_more events i d within) ∙ filter-append (λ e. owner_of e == old.number) (take i events) (event ∷ []) ∙ ap (λ b. before ++ cond b (event ∷ []) []) (eq-eqb (owner_of event) old.number own) in
    ap events_of log ∙ map-append (λ e. e.event) old.log (entry ∷ []) ∙ ap (λ es. es ++ event ∷ []) made ∙ sym owned ∙ ap (λ n. owned_by owner_of n (take (i + 1) events)) (sym same)

-- Noted ------------------------------------------------------------------------------------------

pub nobody-stopped : (count number : ℕ) → get_or (replicate {A = Option Stop} count None) number None ≡ None
nobody-stopped count number =
    let stops : List (Option Stop) = replicate count None in
    ⊎_elim (λ past. get_or_past stops number None (omega (arith, past.1, length-replicate {A = Option Stop} count None))) (λ within. get_or-replicate {A = Option Stop} count number None None within.1) (leb_tells count number)

module _ (racers : List Racer) (racer : Racer) (old mid new : List (Option Stop)) (noted : AreNoted racers old mid) where
  -- one that was noted before
  found-before : (number : ℕ) (reason : Stop) → number < 9 → get_or mid number None ≡ Some reason
      → (get_or old number None ≡ Some reason) ⊎ ((r : Racer) × Contains (racers ++ racer ∷ []) r × (r.seat.number ≡ number) × (r.stop ≡ Some reason))
  found-before number reason below some = ⊎_elim (λ before. inl before) (λ found. inr (found.0, Contains-append_left racers (racer ∷ []) found.0 found.1, found.2, found.3)) (noted.some number reason below some)

  -- one more, who wasn't refused a call
  one-whole : racer.stop ≡ None → AreNoted (racers ++ racer ∷ []) old mid
  one-whole unstopped = record {
    none = λ number below is.
        let before = noted.none number below is in
        (before.0, All-push (λ r. r.seat.number ≡ number → r.stop ≡ None) racers racer before.1 (λ same. unstopped));
    some = found-before;
    above = noted.above;
  }

  module _ (stop : Stop) (stopped : racer.stop ≡ Some stop) (past : 8 < racer.seat.number → new ≡ mid) (there : racer.seat.number < 9 → get_or new racer.seat.number None ≡ racer.stop) (other : (number : ℕ) → number ≢ racer.seat.number → get_or new number None ≡ get_or mid number None) where
    none-at : (number : ℕ) → number < 9 → get_or new number None ≡ None → (get_or old number None ≡ None) × All (λ r. r.seat.number ≡ number → r.stop ≡ None) (racers ++ racer ∷ [])
    none-at number below none =
        ⊎_elim
        (λ same. absurd (none-some stop (sym none ∙ ap (λ n. get_or new n None) same.1 ∙ there (subst (λ n. n < 9) same.1 below) ∙ stopped)))
        (λ apart. let before = noted.none number below (sym (other number apart.1) ∙ none) in (before.0, All-push (λ r. r.seat.number ≡ number → r.stop ≡ None) racers racer before.1 (λ same. absurd (apart.1 (sym same)))))
        (eqb_tells number racer.seat.number)

    some-at : (number : ℕ) (reason : Stop) → number < 9 → get_or new number None ≡ Some reason
        → (get_or old number None ≡ Some reason) ⊎ ((r : Racer) × Contains (racers ++ racer ∷ []) r × (r.seat.number ≡ number) × (r.stop ≡ Some reason))
    some-at number reason below some =
        ⊎_elim
        (λ same. inr (racer, Contains-push racers racer, sym same.1, sym (there (subst (λ n. n < 9) same.1 below)) ∙ ap (λ n. get_or new n None) (sym same.1) ∙ some))
        (λ apart. found-before number reason below (sym (other number apart.1) ∙ some))
        (eqb_tells number racer.seat.number)

    above-at : (number : ℕ) → 8 < number → get_or new number None ≡ get_or old number None
    above-at number above =
        ⊎_elim
        (λ same. ap (λ stops. get_or stops number None) (past (subst (λ n. 8 < n) same.1 above)) ∙ noted.above number above)
        (λ apart. other number apart.1 ∙ noted.above number above)
        (eqb_tells number racer.seat.number)

    -- one more, who was
    one-short : AreNoted (racers ++ racer ∷ []) old new
    one-short = record { none = none-at; some = some-at; above = above-at }

-- one racer more, as is noted at the number of the seat
pub noted-more : (racers : List Racer) (racer : Racer) (old mid new : List (Option Stop)) → (racer.stop ≡ None → new ≡ mid) → (8 < racer.seat.number → new ≡ mid) → ((reason : Stop) → racer.seat.number < 9 → racer.stop ≡ Some reason → get_or new racer.seat.number None ≡ racer.stop)
    → ((number : ℕ) → number ≢ racer.seat.number → get_or new number None ≡ get_or mid number None) → AreNoted racers old mid → AreNoted (racers ++ racer ∷ []) old new
noted-more racers racer old mid new same past there other noted = go racer.stop refl
  where
    go : (stop : Option Stop) → racer.stop ≡ stop → AreNoted (racers ++ racer ∷ []) old new
    go None is = subst (AreNoted (racers ++ racer ∷ []) old) (sym (same is)) (one-whole racers racer old mid new noted is)
    go (Some stop) is = one-short racers racer old mid new noted stop is past (λ below. there stop below is) other

-- Run --------------------------------------------------------------------------------------------

Contains-map : (racers : List Racer) (racer : Racer) → Contains racers racer → Contains (map (λ r. r.seat) racers) racer.seat
Contains-map racers racer is = (is.0, omega (arith, is.1, length-map racers (λ r. r.seat)), get_or-map (λ r. r.seat) racers is.0 racer racer.seat is.1 ∙ ap (λ r. r.seat) is.2)

module _ (service : ServiceView) (Refused : LockSeatView Entry → Event → Stop → Type 0) (events : List Event) where
  -- racers of a number of whom none was refused a call
  whole-seats : (racers : List Racer) (number : ℕ) → All (HasRunIn service Refused events) racers → All (λ r. r.seat.number ≡ number → r.stop ≡ None) racers → All (λ seat. seat.number ≡ number → HasMadeItsCalls Refused events None seat) (map (λ r. r.seat) racers)
  whole-seats racers number run none = All-map (λ seat. seat.number ≡ number → HasMadeItsCalls Refused events None seat) (λ r. r.seat) racers (λ k d lt same. subst (λ stop. HasMadeItsCalls Refused events stop (get_or racers k d).seat) (none k d lt same) (run k d lt).1)

  -- one who was
  short-seat : (racers : List Racer) (number : ℕ) (stop : Stop) → All (HasRunIn service Refused events) racers → (racer : Racer) × Contains racers racer × (racer.seat.number ≡ number) × (racer.stop ≡ Some stop)
      → (seat : LockSeatView Entry) × Contains (map (λ r. r.seat) racers) seat × (seat.number ≡ number) × HasMadeItsCalls Refused events (Some stop) seat
  short-seat racers number stop run found =
      (found.0.seat, Contains-map racers found.0 found.1, found.2, subst (λ stop. HasMadeItsCalls Refused events stop found.0.seat) found.3 (All-contains (HasRunIn service Refused events) racers found.0 run found.1).1)

  -- those with threads of their own, and then the others
  pub seats-run : (busy idle : List Racer) (first mid last : List (Option Stop)) → ((number : ℕ) → get_or first number None ≡ None) → AreNoted busy first mid → AreNoted idle mid last → All (HasRunIn service Refused events) busy → All (HasRunIn service Refused events) idle
      → AreRun Refused events last (map (λ r. r.seat) busy ++ map (λ r. r.seat) idle)
  seats-run busy idle first mid last empty one other run also = record {
    none = λ number below is.
        let second = other.none number below is in
        let none = one.none number below second.0 in
        All-append (λ seat. seat.number ≡ number → HasMadeItsCalls Refused events None seat) (map (λ r. r.seat) busy) (map (λ r. r.seat) idle) (whole-seats busy number run none.1) (whole-seats idle number also second.1);
    some = λ number stop below is.
        ⊎_elim (λ before. left number stop (one.some number stop below before)) (λ found. let seat = short-seat idle number stop also found in (seat.0, Contains-append_right (map (λ r. r.seat) busy) (map (λ r. r.seat) idle) seat.0 seat.1, seat.2, seat.3)) (other.some number stop below is);
    above = λ number past. other.above number past ∙ one.above number past ∙ empty number;
  }
    where
      left : (number : ℕ) (stop : Stop) → (get_or first number None ≡ Some stop) ⊎ ((racer : Racer) × Contains busy racer × (racer.seat.number ≡ number) × (racer.stop ≡ Some stop))
          → (seat : LockSeatView Entry) × Contains (map (λ r. r.seat) busy ++ map (λ r. r.seat) idle) seat × (seat.number ≡ number) × HasMadeItsCalls Refused events (Some stop) seat
      left number stop (inl before) = absurd (none-some stop (sym (empty number) ∙ before))
      left number stop (inr found) = let seat = short-seat busy number stop run found in (seat.0, Contains-append_left (map (λ r. r.seat) busy) (map (λ r. r.seat) idle) seat.0 seat.1, seat.2, seat.3)
