use Rattle.std.proofs.Common.{arith, ap, sym, ◌∙◌, subst}
use mathlib.Core.Option.{none}
use Rattle.atomic_table.specs.Table.{Me, Allows, step}
use Rattle.mh_seat_laws.specs.{Lock.IsLocked, declared.seat_view.SeatView.SeatView}
use Rattle.mh_lock.specs.Steps.{number_in, log_in, Gives}
use Rattle.mh_lock.proofs.LockSteps.{give-allowed}
use Rattle.mh_lock.proofs.lock.Lock.give.Goals as goal

pub store-requires : goal.store-requires
store-requires g c =
    let lock = c.self.inside in
    let seat = c.args.seat.now in
    let slots = lock.table.shared.table_id.slots in
    let has = c.requires.holding in (
      c.requires.own ∙ sym (ap (λ view. view.table) c.self.view_is),
      omega (arith, c.self.invariant.1),
      subst
          (λ (me : Me g.row.T.Denot (SeatView g.row.E.Denot g.row.T-Origin.Denot)). Allows (IsLocked g.E.Owned.owner g.T.Entries.entries g.T.Entries.origin lock.table.shared.key) slots seat.id me 0 (λ _. 0) (λ _. Gives g.E.Owned.owner g.T.Entries.entries g.T.Entries.origin (step slots 0 0 0 none) me 0))
          (sym has.holds)
          (give-allowed g.E.Owned.owner g.T.Entries.entries g.T.Entries.origin lock.table.shared.key slots seat.id (number_in seat.me) (log_in seat.me) has.found has.value has.entries_grow has.same_origin),
    )
