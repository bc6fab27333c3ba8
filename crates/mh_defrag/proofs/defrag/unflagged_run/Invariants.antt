use Rattle.mh_defrag.specs.Auxiliary.{AreUnflagged}
use Rattle.mh_defrag.proofs.defrag.unflagged_run.Given as goal

abbrev pub invariant-loop-count : goal.invariant-loop-count
invariant-loop-count l = AreUnflagged l.blocks l.first l.count
