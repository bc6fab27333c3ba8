-- Racers at seats before their first call.
use Rattle.std.proofs.Common.{◌≡◌, List, [], ◌∷◌, ◌++◌, Some, None, All, refl, sym, subst}
use Rattle.std.proofs.lemmas.List.Elements.{All-push, All-pop}
use Rattle.mh_lock.specs.Seats.{LockSeatView}
use Rattle.mh_model.specs.declared.history.Entry.{Entry}
use Rattle.mh_race.specs.{Auxiliary.{IsNewSeat, IsFresh}, declared.racer.Racer.Racer}
use Rattle.mh_service.specs.Services.{ServiceView}

-- the last seat is new, and so are those before it
pub last-new : (service : ServiceView) (seats : List (LockSeatView Entry)) (seat : LockSeatView Entry) → All (IsNewSeat service) (seats ++ seat ∷ []) → All (IsNewSeat service) seats × IsNewSeat service seat
last-new service seats seat all = All-pop (IsNewSeat service) (seats ++ seat ∷ []) seats (Some seat) refl all

-- a racer at a new seat may stand with fresh ones
pub fresh-push : (service : ServiceView) (racers after : List Racer) (racer : Racer) (seat : LockSeatView Entry) → after ≡ racers ++ racer ∷ [] → racer ≡ record { seat = seat; stop = None } → IsNewSeat service seat → All (IsFresh service) racers → All (IsFresh service) after
fresh-push service racers after racer seat pushed is new all =
    subst (All (IsFresh service)) (sym pushed) (All-push (IsFresh service) racers racer all (subst (IsFresh service) (sym is) (new, refl)))
