use Rattle.std.proofs.Common.{arith, ◌≡◌, ◌-◌, ◌+◌, ℕ, suc, [], ◌∷◌, ◌++◌, ap, sym, ◌∙◌, refl}
use Rattle.mh_lock.specs.Seats.{LockView, LockSeatView, new_seat}
use Rattle.mh_lock.proofs.{LockSteps.{opening-locked, split-kept}, LockSeats.{rest-of_split, each-push}}
use Rattle.mh_lock.proofs.lock.Lock.open.Goals as goal

pub new-requires : goal.new-requires
new-requires g c =
    let items : c.push.new.self.items ≡ c.args.value ∷ [] = c.in_ok-push.ensures.items ∙ ap (λ l. l ++ c.args.value ∷ []) c.new-slots.ensures.items in
    rw items (opening-locked g.E.Owned.owner g.T.Entries.entries g.T.Entries.origin (c.args.seats, c.origin.result) c.args.value c.requires.fresh (sym c.origin.ensures))

pub loop-number-init : goal.loop-number-init
loop-number-init g c = grind arith

pub split_seat-first-requires : goal.split_seat-first-requires
split_seat-first-requires g c = (
  c.loop-number.invariant.table,
  omega (arith, c.in-Ok.ensures.ok.0),
  split-kept g.E.Owned.owner g.T.Entries.entries g.T.Entries.origin c.in-Ok.table.shared.key c.loop-number.rest.id c.loop-number.rest.me.0 (ap (λ me. me.0.found) c.loop-number.invariant.left.2),
)

pub loop-number-preserved : goal.loop-number-preserved
loop-number-preserved g c =
    let loop = c.loop-number.invariant in
    let count : ℕ = loop.left.0 - 1 in
    let is : loop.left.0 ≡ suc count = omega arith in
    let split = c.split_seat-first.ensures in
    let lock : LockView g.row.T-Origin.Denot = record { table = c.in-Ok.table.shared.table_id; seats = c.args.seats; origin = c.in-Ok.table.shared.key.1 } in record {
      left = (count, omega arith, rest-of_split c.loop-number.number loop.left.0 (suc count) (c.loop-number.number + 1) c.loop-number.rest.me c.split_seat-first.new.seat.me loop.left.2 split.2 is (omega arith));
      table = split.0 ∙ loop.table;
      count = omega (arith, c.in_ok-push-2.ensures.len, loop.count);
      each = rw c.in_ok-push-2.ensures.items (each-push
          (λ number (seat : LockSeatView g.row.E.Denot). seat ≡ new_seat lock number)
          c.loop-number.all.items
          c.new-in-loop-number.result
          c.loop-number.number
          (c.loop-number.number + 1)
          (omega (arith, loop.count, c.loop-number.all.ok))
          refl
          loop.each
          (c.new-in-loop-number.ensures ∙ ap (λ table. record { table = table; number = c.loop-number.number; log = [] }) (split.3 ∙ loop.table)));
    }
