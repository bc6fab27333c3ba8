use Rattle.mh_laws.proofs.forwarders.BegunWithin.{quanta-made}
use Rattle.mh_laws.proofs.forwarders.quanta_make_their_forwarders.Goals as goal

pub returns : goal.returns
returns c = quanta-made
