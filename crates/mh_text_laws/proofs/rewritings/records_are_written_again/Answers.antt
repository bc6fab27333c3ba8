use Rattle.mh_text_laws.proofs.rewritings.HistoriesWrittenAgain.{records-again}
use Rattle.mh_text_laws.proofs.rewritings.records_are_written_again.Goals as goal

pub returns : goal.returns
returns c = records-again
