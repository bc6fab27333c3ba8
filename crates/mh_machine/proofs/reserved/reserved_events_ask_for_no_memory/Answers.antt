use Rattle.mh_machine.proofs.ReservedLemmas.{reserved-none}
use Rattle.mh_machine.proofs.reserved.reserved_events_ask_for_no_memory.Goals as goal

pub returns : goal.returns
returns c = reserved-none
