use Rattle.mh_text_laws.proofs.run_histories.Records.{histories_legal}
use Rattle.mh_text_laws.proofs.run_histories.run_histories_are_legal.Goals as goal

pub returns : goal.returns
returns c = histories_legal
