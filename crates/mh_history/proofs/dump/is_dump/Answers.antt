use Rattle.mh_history.proofs.DumpLemmas.{dump_low}
use Rattle.mh_history.proofs.dump.is_dump.Goals as goal

pub returns-in-None : goal.returns-in-None
returns-in-None c = dump_low _ _ _ c.in-Some-item_from.item _ _ c.item_from.new.words _ c.loop-word.invariant c.in-Some.ensures.next c.in-Some-item_from.ensures.some c.in-None.ensures.none
