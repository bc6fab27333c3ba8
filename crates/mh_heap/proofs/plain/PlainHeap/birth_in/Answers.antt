use Rattle.std.proofs.{Common.{◌≡◌, Some, arith}, lemmas.Grind.common_steps}
use Rattle.mh_model.specs.World.{slot_at}
use Rattle.mh_heap.specs.PlainHeap.{world_of}
use Rattle.mh_heap.proofs.PlainLemmas.{named_below}
use Rattle.mh_heap.proofs.plain.PlainHeap.birth_in.Goals as goal

pub returns-clause-there : goal.returns-clause-there
returns-clause-there c =
    let is : slot_at (world_of c.args.self.now) c.args.slot ≡ Some c.birth.inside.0 = grind (arith, common_steps) in
    named_below _ _ _ _ _ _ c.args.self.now.closed is
