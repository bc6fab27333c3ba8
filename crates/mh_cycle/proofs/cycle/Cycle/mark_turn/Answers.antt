use Rattle.std.proofs.Common.{arith}
use Rattle.mh_cycle.proofs.StrideLemmas.{turn-run, turn-wider}
use Rattle.mh_cycle.proofs.cycle.Cycle.mark_turn.Goals as goal

pub returns-then-pays : goal.returns-then-pays
returns-then-pays g c = turn-run c.collectors_stay_steady.ensures _ _ _ _ c.requires.steady c.mark_batch.ensures.state c.mark_batch.ensures.run

pub returns-else-pays : goal.returns-else-pays
returns-else-pays g c = turn-wider _ _ _ _ _ c.mark_alone.ensures.turn (omega arith)
