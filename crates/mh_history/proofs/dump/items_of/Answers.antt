use Rattle.mh_history.proofs.DumpLemmas.{items_next}
use Rattle.mh_history.proofs.dump.items_of.Goals as goal

pub loop-word-preserved : goal.loop-word-preserved
loop-word-preserved c = items_next _ _ _ c.in-Some-item_from.item _ _ c.item_from.new.words _ c.loop-word.invariant c.in-Some.ensures.next c.in-Some-item_from.ensures.some c.in_ok-push.ensures.items
