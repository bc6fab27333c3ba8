use Rattle.std.proofs.Common.{◌≤◌, ◌+◌, arith}
use Rattle.mh_heap.proofs.BirthLemmas.{births_performed}
use Rattle.mh_heap.specs.PlainHeap.{world_of}
use Rattle.mh_model.specs.{Limits.most_events, World.{births, never_full}}
use Rattle.mh_live.proofs.growing.GrowingWorld.command.Goals as goal

pub invariant_of-self : goal.invariant_of-self
unfolding most_events
invariant_of-self c =
    let one : births (world_of c.perform.new.heap) ≤ births (world_of c.self.inside.heap) + 1 = births_performed never_full _ _ c.args.who c.args.command.now c.in-Ok.reply c.in-Ok.ensures.exactly in
    (omega (arith, one, c.self.invariant.0), omega (arith, c.if-self-ge-MOST_EVENTS.false))
