use Rattle.mh_run_laws.proofs.forwarders.RunForwarders.{finished-made}
use Rattle.mh_run_laws.proofs.forwarders.finished_cycles_made_their_forwarders.Goals as goal

pub returns : goal.returns
returns c = finished-made
