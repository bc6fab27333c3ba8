use Rattle.mh_text_laws.proofs.rewritings.HistoriesWrittenAgain.{histories-again}
use Rattle.mh_text_laws.proofs.rewritings.histories_are_written_again.Goals as goal

pub returns : goal.returns
returns c = histories-again
