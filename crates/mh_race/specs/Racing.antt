-- What each seat of a race has done, and what a race leaves of the events of its script.
use Rattle.std.specs.Prelude.{◌≡◌, ◌↔◌, ◌⊎◌, ℕ, List, ◌∷◌, ◌++◌, Option, Some, None, Err, get_or}
use Rattle.mh_model.specs.{declared.command.Event.Event, declared.config.Config.Config}
use Rattle.mh_model.specs.{History.{owner_of, owned_by, events_of}, declared.history.Entry.Entry}
use Rattle.mh_lock.specs.Seats.{LockSeatView}
use Rattle.mh_service.specs.Services.{ServiceView, IsServed}
use Rattle.mh_machine.specs.declared.machine.Stop.{Stop, TheVariants.NoMemory}

-- A service refused a seat's call of this event for this reason, and left the seat as it was. The state that the call found refused it, for a full
-- history just if it had 1,000,000 entries; or the reason is refused memory
abbrev pub WasRefused : ServiceView → LockSeatView Entry → Event → Stop → Type 0
WasRefused service seat event stop = IsServed service seat seat event (Err stop) ⊎ (stop ≡ NoMemory)

-- The seat has made its calls of some events in their order: all of them, or if it stopped for a reason those before one that was refused for it
abbrev pub HasMadeItsCalls : (LockSeatView Entry → Event → Stop → Type 0) → List Event → Option Stop → LockSeatView Entry → Type 0
HasMadeItsCalls Refused events None seat = events_of seat.log ≡ owned_by owner_of seat.number events
HasMadeItsCalls Refused events (Some stop) seat = (event : Event) × (later : List Event) × (events_of seat.log ++ event ∷ later ≡ owned_by owner_of seat.number events) × Refused seat event stop

-- by these stops some seat was refused a call for this reason, or none was refused any
abbrev pub SomeSeatStopped : List (Option Stop) → Stop → Type 0
SomeSeatStopped stops reason = (seat : ℕ) × (get_or stops seat None ≡ Some reason)

abbrev pub NoneStopped : List (Option Stop) → Type 0
NoneStopped stops = (seat : ℕ) → get_or stops seat None ≡ None

-- A seat was stopped just if not all of its calls among the events were done
abbrev pub AreStopped : List Event → List Event → List (Option Stop) → Type 0
AreStopped events done stops = (seat : ℕ) → (get_or stops seat None ≡ None) ↔ (owned_by owner_of seat done ≡ owned_by owner_of seat events)

-- Each seat's calls are those that it has among the events, in their order, and no others
abbrev pub MakesTheCalls : List Event → List Event → Type 0
MakesTheCalls events done = (seat : ℕ) → owned_by owner_of seat done ≡ owned_by owner_of seat events

-- Each seat's calls are the first of those that it has among the events, in their order, and no others
abbrev pub BeginsItsCalls : List Event → List Event → Type 0
BeginsItsCalls events done = (seat : ℕ) → (left : List Event) × (owned_by owner_of seat done ++ left ≡ owned_by owner_of seat events)

-- The seat of a number made its calls of some events up to the first that isn't in the history, which its service refused for this reason
pub record StoppedAtARefusal (service : ServiceView) (events : List Event) (history : List Entry) (number : ℕ) (stop : Stop) : Type 0 where
  pub seat : LockSeatView Entry
  pub number_is : seat.number ≡ number
  pub log_is : seat.log ≡ owned_by (λ entry. owner_of entry.event) number history
  pub calls : HasMadeItsCalls (WasRefused service) events (Some stop) seat

-- Each seat that was stopped made its calls up to one that the one service of this configuration refused, for the reason that is given for the seat
abbrev pub HaveReasons : Config → List Event → List Entry → List (Option Stop) → Type 0
HaveReasons config events history stops = (service : ServiceView) × (service.config ≡ config) × ((seat : ℕ) (stop : Stop) → get_or stops seat None ≡ Some stop → StoppedAtARefusal service events history seat stop)
