use Rattle.mh_embed.proofs.ReservedLemmas.{not_refused}
use Rattle.mh_embed.proofs.laws.reserved_events_are_not_refused_memory.Goals as goal

pub returns : goal.returns
returns c = not_refused c.reserved_events_ask_for_no_memory.ensures
