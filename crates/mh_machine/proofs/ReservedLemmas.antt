-- Events for which there is room ask for no memory.
use Rattle.std.proofs.{Common.{◌≡◌, ◌+◌, ◌*◌, ◌≤◌, ℕ, false, arith}, lemmas.Bool.true≢false}
use Rattle.mh_model.specs.declared.command.{Event.Event, Control.Control}
use Rattle.mh_machine.specs.Running.{Running, MayAskForMemory}
use Rattle.mh_machine.specs.Reserved.{AtFirst, Done, Forgotten, ReservedEventsAskForNoMemory, Since, is_dump}

-- the room that is left, and all of it after a forgetting
pub record HasLeft (events count : ℕ) (new : Running) : Type 0 where
  pub room : events * 2 ≤ new.room + count * 2
  pub capacity : events * 2 ≤ new.capacity

has-left : {events : ℕ} {first new : Running} {count : ℕ} → events * 2 ≤ first.room → events * 2 ≤ first.capacity → Since first count new → HasLeft events count new
has-left enough whole AtFirst = record { room = omega (arith, enough); capacity = whole }
has-left enough whole (Done count old new event reply since does) =
    let left = has-left enough whole since in
    record { room = omega (arith, left.room, does.room); capacity = omega (arith, left.capacity, does.capacity) }
has-left enough whole (Forgotten count old new since forgets) =
    let left = has-left enough whole since in
    record { room = omega (arith, left.capacity, forgets.room); capacity = omega (arith, left.capacity, forgets.capacity) }

-- an event that isn't a dump asks for no memory where there is room for one
room-enough : (room : ℕ) (event : Event) → 2 ≤ room → is_dump event ≡ false → ¬ MayAskForMemory room event
room-enough room (Event.Session who command) enough other asks = omega (arith, enough, asks)
room-enough room (Event.Control Control.Quantum) enough other asks = omega (arith, enough, asks)
room-enough room (Event.Control Control.Dump) enough other asks = true≢false other
room-enough room (Event.Control asked) enough other asks = asks

pub reserved-none : ReservedEventsAskForNoMemory
reserved-none room before first new count event reserves since few other =
    let left : HasLeft room count new = has-left reserves.room reserves.capacity since in
    room-enough new.room event (omega (arith, left.room, few)) other
