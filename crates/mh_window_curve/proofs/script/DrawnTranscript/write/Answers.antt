use Rattle.mh_script.proofs.TakenLemmas.{takes-none, writing-stops}
use Rattle.mh_window_curve.proofs.script.DrawnTranscript.write.Goals as goal

pub returns-in_err-text-clause-written : goal.returns-in_err-text-clause-written
returns-in_err-text-clause-written g c = writing-stops _ c.from_residual.ensures.1 (takes-none _ _)
