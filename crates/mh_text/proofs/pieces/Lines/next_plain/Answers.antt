use Rattle.mh_text.proofs.PlainLemmas.{takes_event}
use Rattle.mh_text.proofs.pieces.Lines.next_plain.Goals as goal

pub returns-clause-taken : goal.returns-clause-taken
returns-clause-taken c = rw (← c.self.view_is) (takes_event _ _ _ _ _ _ _ c.in_ok-who.ensures.some c.in_ok-command.ensures.some)
