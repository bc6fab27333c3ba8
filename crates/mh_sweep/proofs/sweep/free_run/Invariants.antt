use Rattle.mh_sweep.specs.Auxiliary.{AreFree}
use Rattle.mh_sweep.proofs.sweep.free_run.Given as goal

abbrev pub invariant-loop-count : goal.invariant-loop-count
invariant-loop-count l = AreFree l.blocks l.first l.count
