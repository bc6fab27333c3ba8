use Rattle.std.proofs.Common.{refl}
use Rattle.mh_script.specs.{Promised.AreReplies, Run.replies_run}
use Rattle.mh_script.proofs.{PromiseLemmas.promised-output, RunLemmas.replies_are, TaskLemmas.done-less}
use Rattle.mh_script.proofs.run.run_script.Goals as goal

pub returns : goal.returns
returns g c = done-less (promised-output c.replies_are_promised.ensures (λ _. replies_run) AreReplies (λ script config events. refl) c.args.rules _ _ (replies_are c.args.rules)) c.transcribe.ensures
