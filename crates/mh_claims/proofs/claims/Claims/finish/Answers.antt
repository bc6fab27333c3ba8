use Rattle.std.proofs.Common.{arith, ◌≡◌, ℕ, ◌∷◌, ◌++◌, [], true, length, ap, ◌∙◌, sym, subst, Some}
use Rattle.std.proofs.{lemmas.List.Elements.All-pop, lemmas.List.{nil_from_length, length-map}}
use Rattle.atomic_table.specs.Table.{Seen}
use Rattle.mh_model.specs.History.{times_drawn}
use Rattle.mh_seat_laws.specs.ClaimWord.{Lists, IsClaimed}
use Rattle.mh_claims.specs.Seats.{ClaimsView, DrawSeatView, DrawsFrom, seat_ended}
use Rattle.mh_claims.proofs.ClaimSteps.{join-kept}
use Rattle.mh_claims.proofs.FinishedClaims.{lists_of, lists_of-pop, lists_of-ended, finished-drawn_once, AllEnded}
use Rattle.mh_claims.proofs.claims.Claims.finish.Goals as goal

abbrev IsDone : ClaimsView → DrawSeatView → Type 0
IsDone claims seat = DrawsFrom claims seat × (seat_ended seat ≡ true)

pub join_seat-requires : goal.join_seat-requires
join_seat-requires c =
    let loop = c.loop-before.invariant in
    let before = c.in-Some-pop.before in
    let popped = All-pop (IsDone c.args.self) c.loop-before.seats.items c.pop-in-loop-before.new.self.items (Some before) c.in-Some-pop.ensures.items loop.each in (
      loop.table,
      c.into_seat.ensures.0 ∙ (popped.1.0.0 ∙ sym (ap (λ claims. claims.table) c.self.view_is)),
      ap (λ me. me.1) c.into_seat.ensures.1,
      omega (arith, c.self.invariant.1),
      join-kept c.self.inside.table.shared.key c.loop-before.all.id c.loop-before.all.me.0 c.into_seat.result.id c.into_seat.result.me.0,
    )

pub loop-before-preserved : goal.loop-before-preserved
loop-before-preserved c =
    let loop = c.loop-before.invariant in
    let before = c.in-Some-pop.before in
    let items = c.in-Some-pop.ensures.items in
    let rest = c.pop-in-loop-before.new.self.items in
    let all : Lists = c.loop-before.all.me.0 in
    let joined = c.join_seat.ensures in
    let longer : c.join_seat.new.seat.me.0 ≡ before.drawn ∷ all = ap (λ me. me.0) joined.2 ∙ ap (λ me. me.0 ++ all) c.into_seat.ensures.1 in record {
      table = joined.0 ∙ loop.table;
      bare = ap (λ me. me.1) joined.2 ∙ loop.bare;
      each = (All-pop (IsDone c.args.self) c.loop-before.seats.items rest (Some before) items loop.each).0;
      lists = ap (λ lists. lists_of rest ++ lists) longer ∙ (lists_of-pop rest before all ∙ (ap (λ seats. lists_of seats ++ all) (sym items) ∙ loop.lists));
    }

pub free-requires : goal.free-requires
free-requires c = λ slot within. absurd (omega (arith, c.close_with.ensures.counts.1, c.self.invariant.2, within))

pub returns : goal.returns
returns c = λ number below.
    let claims = c.self.inside in
    let about : ℕ × ℕ = (claims.bound, claims.seats) in
    let all = c.loop-before.all in
    let none_left : c.loop-before.seats.items ≡ [] = nil_from_length c.loop-before.seats.items (omega (arith, c.loop-before.seats.ok, c.in_default-pop.ensures.cases.0)) in
    let lists : all.me.0 ≡ lists_of c.args.seats.items = ap (λ seats. lists_of seats ++ all.me.0) (sym none_left) ∙ c.loop-before.invariant.lists in
    let last = c.close_with.ensures.values.2 in
    let seen : Seen (IsClaimed about) all.id all.me.0 last.0 = subst (λ key. Seen (IsClaimed key) all.id all.me.0 last.0) c.self.invariant.3 last.1 in
    let count : length all.me.0 ≡ claims.seats = omega (arith, ap length lists, length-map c.args.seats.items (λ (seat : DrawSeatView). seat.drawn), c.args.seats.ok, c.requires.count, ap (λ view. view.seats) c.self.view_is) in
    let bound : claims.bound ≡ c.args.self.bound = ap (λ view. view.bound) c.self.view_is in
    let ended : AllEnded claims.bound all.me.0 = subst (AllEnded claims.bound) (sym lists) (subst (λ n. AllEnded n (lists_of c.args.seats.items)) (sym bound) (lists_of-ended c.args.self c.args.seats.items c.requires.each)) in
    subst (λ lists. times_drawn number lists ≡ 1) lists (finished-drawn_once about all.id all.me.0 last.0 seen count c.self.invariant.0 ended number (omega (arith, below, bound)))
