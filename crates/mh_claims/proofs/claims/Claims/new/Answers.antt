use Rattle.std.proofs.Common.{arith, ◌≡◌, ◌-◌, ℕ, suc, [], drop, replicate, ap, ◌∙◌, sym, subst, refl}
use Rattle.std.proofs.lemmas.List.Elements.{All-push}
use Rattle.atomic_table.specs.Table.{Me}
use Rattle.mh_model.specs.History.{has_ended}
use Rattle.mh_seat_laws.specs.ClaimWord.{Lists}
use Rattle.mh_claims.specs.Seats.{ClaimsView, DrawSeatView, IsBeforeItsDraws}
use Rattle.mh_claims.proofs.ClaimSteps.{opening-claimed, split-kept}
use Rattle.mh_claims.proofs.claims.Claims.new.Goals as goal

-- a seat that drew nothing has one list fewer after a split
rest_of : (before after : Me (Unit {0}) Lists) (count : ℕ) → before ≡ (replicate (suc count) [], []) → after ≡ (drop 1 before.0, before.1) → after ≡ (replicate count [], [])
rest_of before after count is cut = cut ∙ ap (λ (me : Me (Unit {0}) Lists). (drop 1 me.0, me.1)) is

-- a seat that was just made is new
made_new : (claims : ClaimsView) (seat made : DrawSeatView) → seat ≡ made → made.table ≡ claims.table → made.bound ≡ claims.bound → made.drawn ≡ [] → IsBeforeItsDraws claims seat
made_new claims seat made is table bound drawn = subst (IsBeforeItsDraws claims) (sym is) (record { own = (table, bound); drawn = drawn; going = ap (has_ended made.bound) drawn })

pub of_words-requires : goal.of_words-requires
of_words-requires c = opening-claimed (c.args.bound, c.args.seats) c.requires.room

pub split_seat-first-requires : goal.split_seat-first-requires
split_seat-first-requires c = (c.loop.invariant.table, omega (arith, c.in_ok-table.ensures.0), split-kept c.in_ok-table.table.shared.key c.loop.rest.id c.loop.rest.me.0)

pub loop-preserved : goal.loop-preserved
loop-preserved c =
    let loop = c.loop.invariant in
    let split = c.split_seat-first.ensures in
    let count : ℕ = loop.left.0 - 1 in
    let left : loop.left.0 ≡ suc count = omega arith in
    let claims : ClaimsView = record { table = c.in_ok-table.table.shared.table_id; bound = c.args.bound; seats = c.args.seats } in record {
      left = (count, omega arith, rest_of c.loop.rest.me c.split_seat-first.new.seat.me loop.left.0 loop.left.2 split.2 ∙ ap (λ (n : ℕ). (replicate n [], [])) left);
      table = split.0 ∙ loop.table;
      count = omega (arith, c.in_ok-push.ensures.len, loop.count);
      each = rw c.in_ok-push.ensures.items (All-push (IsBeforeItsDraws claims) c.loop.all.items c.new.result loop.each (made_new claims c.new.result _ c.new.ensures (split.3 ∙ loop.table) refl refl));
    }

pub returns-clause-each : goal.returns-clause-each
returns-clause-each c =
    let claims : ClaimsView = record { table = c.in_ok-table.table.shared.table_id; bound = c.args.bound; seats = c.args.seats } in
    rw c.in_ok-push-2.ensures.items (All-push (IsBeforeItsDraws claims) c.loop.all.items c.new-2.result c.loop.invariant.each (made_new claims c.new-2.result _ c.new-2.ensures c.loop.invariant.table refl refl))
