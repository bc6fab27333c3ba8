use Rattle.mh_run_laws.proofs.showing.QuantaShow.{agrees-quantum}
use Rattle.mh_run_laws.proofs.showing.quanta_keep_the_view.Goals as goal

pub returns : goal.returns
returns c = agrees-quantum
