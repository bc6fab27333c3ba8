use Rattle.mh_size_runs.proofs.TriedLemmas.{AreFull}
use Rattle.mh_size_runs.proofs.tried.try_triggers.Given as goal

abbrev pub invariant-loop-place : goal.invariant-loop-place
invariant-loop-place g l = AreFull l.fn.config l.fn.events l.fn.pages l.place l.latest
