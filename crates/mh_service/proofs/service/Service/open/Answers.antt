use Rattle.std.proofs.Common.{arith, All, ap, sym, subst}
use Rattle.mh_lock.specs.Seats.{IsOf}
use Rattle.mh_service.proofs.service.Service.open.Goals as goal

pub returns-clause-own : goal.returns-clause-own
returns-clause-own g c = subst (All (IsOf c.in_ok-lock.lock)) (sym c.in_ok-seats.ensures)
    (λ k other below. ap (λ seat. seat.table) (c.in_ok-lock.ensures.each k other (omega (arith, below, c.in_ok-lock.ensures.count, c.in_ok-lock.ensures.lock, c.in_ok-lock.inner.ok))))
