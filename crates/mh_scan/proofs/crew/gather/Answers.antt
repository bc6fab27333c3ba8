use Rattle.std.proofs.Common.{arith, ◌≡◌, ℕ, List, true, false, Some}
use Rattle.std.proofs.lemmas.List.Elements.{All-pop, All-push, All-append}
use Rattle.mh_claims.specs.Seats.{DrawSeatView, DrawsFrom, seat_ended}
use Rattle.mh_scan.specs.Auxiliary.{IsFound, HasWorked}
use Rattle.mh_scan.proofs.PieceLemmas.{gathered-more}
use Rattle.mh_scan.proofs.crew.gather.Goals as goal

pub loop-worker-preserved : goal.loop-worker-preserved
loop-worker-preserved c =
    let claims = c.args.claims.now in
    let table = c.args.blocks.now in
    let asks = c.args.asks in
    let batch : List ℕ = c.args.batch.now in
    let loop = c.loop-worker in
    let worker = c.in-Some.worker in
    let granted : worker.refused ≡ false = c.if-refused.false in
    let popped = All-pop (HasWorked claims table asks batch) loop.workers.items c.pop.new.self.items (Some worker) c.in-Some.ensures.items loop.invariant.left in
    let has : HasWorked claims table asks batch worker = popped.1 in record {
      count = omega (arith, c.in_ok-push.ensures.len, c.in-Some.ensures.len, loop.invariant.count);
      left = popped.0;
      ended = rw c.in_ok-push.ensures.items (All-push (λ (seat : DrawSeatView). DrawsFrom claims seat × (seat_ended seat ≡ true)) loop.seats.items worker.seat loop.invariant.ended (has.own, has.ended granted));
      found = rw c.in_ok-append.ensures.items (All-append (IsFound table asks batch) loop.found.items worker.done.items loop.invariant.found has.found);
      times = λ number below. rw (c.in_ok-push.ensures.items, c.in_ok-append.ensures.items)
          (gathered-more number claims.bound has.last loop.seats.items worker.seat loop.found.items worker.done.items (has.drawn granted) (has.past granted) below (loop.invariant.times number below));
    }
