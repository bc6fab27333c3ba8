use Rattle.mh_blocks.proofs.DeadLemmas.{AreFoundBelow}
use Rattle.mh_blocks.proofs.blocks.Blocks.dead_by_stamps.Given as goal

abbrev pub invariant-loop-slot : goal.invariant-loop-slot
invariant-loop-slot l = AreFoundBelow l.fn.self l.fn.cycle l.fn.page l.dead l.slot
