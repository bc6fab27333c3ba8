use Rattle.std.proofs.{Common.{◌≡◌, false, ap, sym, ◌∙◌, subst, inl, arith}, lemmas.Bool.true≢false}
use Rattle.std.proofs.lemmas.Result.{err_from_is_err_and}
use Rattle.std.specs.Prelude.{OnOk, Result, Ok, Err, is_err}
use Rattle.mh_lock.specs.Seats.{LockSeatView}
use Rattle.mh_model.specs.{declared.history.Entry.Entry, declared.reply.Reply.Reply, History.{owner_of, owned_by}}
use Rattle.mh_service.specs.Sharing.{IsDone}
use Rattle.mh_service.proofs.SharedStates.{call-served}
use Rattle.mh_service.proofs.service.Service.call.Goals as goal

pub returns-in_err-call-clause-served : goal.returns-in_err-call-clause-served
returns-in_err-call-clause-served g c =
    let alone = c.in_err-call.ensures.alone in
    let config = ap (λ service. service.config) c.self.view_is in
    let p = err_from_is_err_and c.from_residual.result c.from_residual.ensures.1 in
    inl (call-served
    c.args.self.now
    c.args.seat.now
    _
    c.args.event
    _
    alone.found
    alone.left
    (alone.origin_found ∙ config)
    (alone.origin_left ∙ config)
    alone.done.0
    alone.done.1
    (subst (λ (seat : LockSeatView Entry). seat.log ≡ owned_by (λ entry. owner_of entry.event) seat.number alone.found.history) c.seat.view_is alone.log_found)
    alone.log_left
    (rw (p.1, p.2) alone.done.2))

pub returns-clause-served : goal.returns-clause-served
returns-clause-served g c =
    let alone = c.in_ok-call.ensures.alone in
    let config = ap (λ service. service.config) c.self.view_is in
    inl (call-served
    c.args.self.now
    c.args.seat.now
    _
    c.args.event
    _
    alone.found
    alone.left
    (alone.origin_found ∙ config)
    (alone.origin_left ∙ config)
    alone.done.0
    alone.done.1
    (subst (λ (seat : LockSeatView Entry). seat.log ≡ owned_by (λ entry. owner_of entry.event) seat.number alone.found.history) c.seat.view_is alone.log_found)
    alone.log_left
    (subst (λ (reply : Reply). IsDone c.args.event alone.found reply alone.left) (sym (ap (λ both. both.0) c.both-given.ensures)) alone.done.2))

-- what holds if a call went well
if-well : {T E : Type 0} {P : Type 0} (given : Result T E) → is_err given ≡ false → OnOk given P → P
if-well (Ok value) well holds = holds
if-well (Err error) well holds = absurd (true≢false well)

pub push_reserved-requires : goal.push_reserved-requires
push_reserved-requires g c = omega (arith, if-well c.reserve.result (sym c.is_err.ensures.value ∙ c.if-is_err.false) c.reserve.ensures.ok)
