use Rattle.mh_paged.proofs.KeptLemmas.{keeps-each}
use Rattle.mh_paged.proofs.paged.PagedHeap.perform.Goals as goal

pub returns-clause-keeps : goal.returns-clause-keeps
returns-clause-keeps c = keeps-each c.commands_keep_the_snapshot.ensures c.args.self.now.kept _ c.args.who c.args.command.now _ c.in-Ok.ensures.exactly
