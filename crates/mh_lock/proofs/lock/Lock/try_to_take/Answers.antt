use Rattle.std.proofs.Common.{arith, ◌≡◌, ℕ, eqb, Option, Some, ap, sym, ◌∙◌, subst}
use mathlib.Core.Option.{none}
use prog.Atomic.{either}
use Rattle.atomic_table.specs.Table.{Me, Allows, step}
use Rattle.mh_seat_laws.specs.{Lock.IsLocked, declared.seat_view.SeatView.SeatView}
use Rattle.mh_lock.specs.Steps.{number_in, log_in, Takes}
use Rattle.mh_lock.proofs.LockSteps.{take-allowed}
use Rattle.mh_lock.proofs.lock.Lock.try_to_take.Goals as goal

pub compare_exchange-requires : goal.compare_exchange-requires
compare_exchange-requires g c =
    let owner = g.E.Owned.owner in
    let entries = g.T.Entries.entries in
    let origin = g.T.Entries.origin in
    let lock = c.self.inside in
    let seat = c.loop.seat in
    let first = c.args.seat.now.me in
    let key = lock.table.shared.key in
    let slots = lock.table.shared.table_id.slots in
    let named : g.A.About.about ≡ Some key = c.requires.about ∙ ap Some (λ i. (sym (c.self.invariant.3 ∙ ap (λ view. view.seats) c.self.view_is) i, sym (ap (λ view. view.origin) c.self.view_is) i)) in (
      c.loop.invariant.table ∙ (c.requires.own ∙ sym (ap (λ view. view.table) c.self.view_is)),
      omega (arith, c.self.invariant.1),
      subst
          (λ (told : Option (ℕ × g.row.T-Origin.Denot)). Allows (IsLocked owner entries origin key) slots seat.id seat.me 0 (λ word. either (eqb word 0) 1 word) (Takes owner entries origin told (step slots 0 0 1 none) seat.me))
          (sym named)
          (subst
          (λ (me : Me g.row.T.Denot (SeatView g.row.E.Denot g.row.T-Origin.Denot)). Allows (IsLocked owner entries origin key) slots seat.id me 0 (λ word. either (eqb word 0) 1 word) (Takes owner entries origin (Some key) (step slots 0 0 1 none) me))
          (sym (c.loop.invariant.me ∙ c.requires.alone))
          (take-allowed owner entries origin key slots seat.id (number_in first) (log_in first))),
    )
