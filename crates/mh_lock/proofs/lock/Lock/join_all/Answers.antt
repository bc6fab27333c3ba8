use Rattle.std.proofs.Common.{arith, ◌≡◌, ◌∷◌, ◌++◌, [], Some, append-nil, ap, ◌∙◌, sym, subst}
use Rattle.std.proofs.{lemmas.List.Elements.All-pop, lemmas.List.nil_from_length}
use mathlib.Core.Option.{some-injective}
use Rattle.atomic_table.specs.Table.{Seen}
use Rattle.mh_seat_laws.specs.Lock.{IsLocked}
use Rattle.mh_lock.specs.{Seats.{LockSeatView, IsOf}, Steps.alone}
use Rattle.mh_lock.proofs.{LockSteps.join-kept, ClosedLocks.{logs_of, logs_of-pop, Tells, closed-tells}}
use Rattle.mh_lock.proofs.lock.Lock.join_all.Goals as goal

pub loop-before-init : goal.loop-before-init
loop-before-init g c =
    let seat_of = g.S.HasSeat.seat_of in
    let last = c.in-Some.last in
    let items = c.in-Some.ensures.items in
    let rest = c.pop.new.self.items in
    let popped = All-pop (λ seat. IsOf c.args.self (seat_of seat)) c.args.seats.items rest (Some last) items c.requires.each in
    let me : c.into_seat-all.result.me ≡ alone (seat_of last).number (seat_of last).log = c.into_seat-all.ensures.1 ∙ ap (λ (seat : LockSeatView g.row.E.Denot). alone seat.number seat.log) c.into_lock_seat.ensures in record {
      table = c.into_seat-all.ensures.0 ∙ (ap (λ (seat : LockSeatView g.row.E.Denot). seat.table) c.into_lock_seat.ensures ∙ (popped.1 ∙ sym (ap (λ view. view.table) c.self.view_is)));
      bare = ap (λ m. m.1) me;
      free = ap (λ m. m.0.found) me;
      each = popped.0;
      logs = ap (λ m. logs_of seat_of rest ++ m.0.logs) me ∙ (logs_of-pop seat_of rest last [] ∙ (append-nil (logs_of seat_of (rest ++ last ∷ [])) ∙ ap (logs_of seat_of) (sym items)));
    }

pub join_seat-requires : goal.join_seat-requires
join_seat-requires g c =
    let seat_of = g.S.HasSeat.seat_of in
    let loop = c.loop-before.invariant in
    let before = c.in-Some-pop.before in
    let popped = All-pop (λ seat. IsOf c.args.self (seat_of seat)) c.loop-before.seats.items c.pop-in-loop-before.new.self.items (Some before) c.in-Some-pop.ensures.items loop.each in (
      loop.table,
      c.into_seat.ensures.0 ∙ (ap (λ (seat : LockSeatView g.row.E.Denot). seat.table) c.into_lock_seat-in-Some-pop.ensures ∙ (popped.1 ∙ sym (ap (λ view. view.table) c.self.view_is))),
      ap (λ me. me.1) c.into_seat.ensures.1,
      omega (arith, c.self.invariant.1),
      join-kept g.E.Owned.owner g.T.Entries.entries g.T.Entries.origin c.self.inside.table.shared.key c.loop-before.all.id c.loop-before.all.me.0 c.into_seat.result.id c.into_seat.result.me.0 loop.free (ap (λ me. me.0.found) c.into_seat.ensures.1),
    )

pub loop-before-preserved : goal.loop-before-preserved
loop-before-preserved g c =
    let seat_of = g.S.HasSeat.seat_of in
    let loop = c.loop-before.invariant in
    let before = c.in-Some-pop.before in
    let items = c.in-Some-pop.ensures.items in
    let rest = c.pop-in-loop-before.new.self.items in
    let all = c.loop-before.all.me.0.logs in
    let joined = c.join_seat.ensures in
    let me : c.into_seat.result.me ≡ alone (seat_of before).number (seat_of before).log = c.into_seat.ensures.1 ∙ ap (λ (seat : LockSeatView g.row.E.Denot). alone seat.number seat.log) c.into_lock_seat-in-Some-pop.ensures in
    let longer : c.join_seat.new.seat.me.0.logs ≡ ((seat_of before).number, (seat_of before).log) ∷ all = ap (λ m. m.0.logs) joined.2 ∙ ap (λ m. m.0.logs ++ all) me in record {
      table = joined.0 ∙ loop.table;
      bare = ap (λ m. m.1) joined.2 ∙ loop.bare;
      free = ap (λ m. m.0.found) joined.2 ∙ loop.free;
      each = (All-pop (λ seat. IsOf c.args.self (seat_of seat)) c.loop-before.seats.items rest (Some before) items loop.each).0;
      logs = ap (λ logs. logs_of seat_of rest ++ logs) longer ∙ (logs_of-pop seat_of rest before all ∙ (ap (λ seats. logs_of seat_of seats ++ all) (sym items) ∙ loop.logs));
    }

pub returns : goal.returns
returns g c =
    let owner = g.E.Owned.owner in
    let entries = g.T.Entries.entries in
    let origin = g.T.Entries.origin in
    let seat_of = g.S.HasSeat.seat_of in
    let all = c.loop-before.all in
    let none_left : c.loop-before.seats.items ≡ [] = nil_from_length c.loop-before.seats.items (omega (arith, c.loop-before.seats.ok, c.in_default-pop.ensures.cases.0)) in
    let logs : all.me.0.logs ≡ logs_of seat_of c.args.seats.items = ap (λ seats. logs_of seat_of seats ++ all.me.0.logs) (sym none_left) ∙ c.loop-before.invariant.logs in
    let last = c.close_with-closed.ensures.values.2 in
    let key : c.self.inside.table.shared.key ≡ (c.args.self.seats, c.args.self.origin) = λ i. ((c.self.invariant.3 ∙ ap (λ view. view.seats) c.self.view_is) i, ap (λ view. view.origin) c.self.view_is i) in
    let seen : Seen (IsLocked owner entries origin (c.args.self.seats, c.args.self.origin)) all.id all.me.0 last.0
    = subst (λ about. Seen (IsLocked owner entries origin about) all.id all.me.0 last.0) key last.1 in
    let tells : Tells seat_of owner c.args.self c.args.seats.items (entries c.take-value.result) (origin c.take-value.result)
    = closed-tells seat_of owner entries origin c.args.self c.args.seats.items last.0 all.id all.me.0 seen logs (omega (arith, c.args.seats.ok, c.requires.count)) c.loop-before.invariant.free c.take-value.result
    (λ other here. some-injective other c.take-value.result (sym (last.4 0 other here) ∙ c.take-value.ensures.value)) in record {
      numbers = tells.numbers;
      logs = tells.logs;
      owned = tells.owned;
      kept = tells.kept;
      origin = tells.same_origin;
    }
