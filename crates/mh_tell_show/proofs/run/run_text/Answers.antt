use Rattle.mh_tell_show.proofs.RunLemmas.{goes_on, run_is}
use Rattle.mh_tell_show.proofs.run.run_text.Goals as goal

pub part_text-requires-clause-run : goal.part_text-requires-clause-run
part_text-requires-clause-run c = goes_on _ _ _ _ _ c.bounds-before.ensures.order c.bounds-before.ensures.within c.requires c.in_ok-machine.ensures.machine

pub returns : goal.returns
returns c = rw (run_is c.args.options c.args.config c.args.events.now _ _ _ c.bounds-before.ensures.before c.bounds-before.ensures.asked c.in_ok-machine.ensures.machine) at c.part_text.ensures
