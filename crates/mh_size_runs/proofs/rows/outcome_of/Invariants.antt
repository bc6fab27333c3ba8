use Rattle.mh_size_runs.proofs.RowLemmas.{HasLooked}
use Rattle.mh_size_runs.proofs.rows.outcome_of.Given as goal

abbrev pub invariant-loop-place : goal.invariant-loop-place
invariant-loop-place g l = HasLooked l.fn.config l.fn.events l.fn.pages l.fn.window l.place l.latest l.first
