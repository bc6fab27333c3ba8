-- Auxiliary definitions: what loops, private functions and the insides of types keep. No public contract depends on them.
use Rattle.std.specs.Prelude.{◌≡◌, ◌⊎◌, ℕ, ◌<◌, List, [], Option, Some, None, All, Contains, get_or}
use Rattle.mh_model.specs.declared.{command.Event.Event, history.Entry.Entry}
use Rattle.mh_lock.specs.Seats.{LockSeatView}
use Rattle.mh_race.specs.{declared.racer.Racer.Racer, Racing.HasMadeItsCalls}
use Rattle.mh_service.specs.Services.{ServiceView, IsOfService}
use Rattle.mh_machine.specs.declared.machine.Stop.{Stop}

-- a seat of this service, before its first call
abbrev pub IsNewSeat : ServiceView → LockSeatView Entry → Type 0
IsNewSeat service seat = IsOfService service seat × (seat.log ≡ [])

-- a racer whose seat is such, and to which no call was refused
abbrev pub IsFresh : ServiceView → Racer → Type 0
IsFresh service racer = IsNewSeat service racer.seat × (racer.stop ≡ None)

-- a racer whose seat is one of this service, and has run so
abbrev pub HasRunIn : ServiceView → (LockSeatView Entry → Event → Stop → Type 0) → List Event → Racer → Type 0
HasRunIn service Refused events racer = IsOfService service racer.seat × HasMadeItsCalls Refused events racer.stop racer.seat

-- by the numbers of seats it is noted which racers were refused a call: none at a number at which nothing is noted, and one at a number at which something new is
pub record AreNoted (racers : List Racer) (old new : List (Option Stop)) : Type 0 where
  pub none : (number : ℕ) → number < 9 → get_or new number None ≡ None → (get_or old number None ≡ None) × All (λ racer. racer.seat.number ≡ number → racer.stop ≡ None) racers
  pub some : (number : ℕ) (stop : Stop) → number < 9 → get_or new number None ≡ Some stop
      → (get_or old number None ≡ Some stop) ⊎ ((racer : Racer) × Contains racers racer × (racer.seat.number ≡ number) × (racer.stop ≡ Some stop))
  pub above : (number : ℕ) → 8 < number → get_or new number None ≡ get_or old number None

-- what is noted of seats is true of what they have run: one at whose number nothing is noted made all its calls, and one at whose number a reason is noted was refused a call for it
pub record AreRun (Refused : LockSeatView Entry → Event → Stop → Type 0) (events : List Event) (stops : List (Option Stop)) (seats : List (LockSeatView Entry)) : Type 0 where
  pub none : (number : ℕ) → number < 9 → get_or stops number None ≡ None → All (λ seat. seat.number ≡ number → HasMadeItsCalls Refused events None seat) seats
  pub some : (number : ℕ) (stop : Stop) → number < 9 → get_or stops number None ≡ Some stop → (seat : LockSeatView Entry) × Contains seats seat × (seat.number ≡ number) × HasMadeItsCalls Refused events (Some stop) seat
  pub above : (number : ℕ) → 8 < number → get_or stops number None ≡ None
