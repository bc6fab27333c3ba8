use Rattle.mh_window_curve.proofs.ReasonLemmas.{output-long}
use Rattle.mh_window_curve.proofs.text.DrawTask.most_bytes.Goals as goal

pub returns-clause-long : goal.returns-clause-long
returns-clause-long c = λ old new text rest ended written long is. output-long old.kind old.options text rest ended written long is
