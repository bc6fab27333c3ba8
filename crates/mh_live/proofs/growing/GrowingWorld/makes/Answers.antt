use Rattle.mh_live.proofs.WorldLemmas.{makes_unrefused}
use Rattle.mh_live.proofs.growing.GrowingWorld.makes.Goals as goal

pub returns-in-New : goal.returns-in-New
returns-in-New c =
    rw (← c.self.view_is, c.in-New.is)
    (makes_unrefused c.refusal_of_new.result c.is_none.result _ c.args.who c.in-New.slot c.in-New.references c.in-New.numbers c.is_none.ensures c.refusal_of_new.ensures)
