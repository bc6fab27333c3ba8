use Rattle.std.proofs.Common.{arith}
use Rattle.mh_defrag.proofs.StillLemmas.{none-taken}
use Rattle.mh_defrag.proofs.defrag.still_count.Goals as goal

pub returns-clause-still : goal.returns-clause-still
returns-clause-still c = grind (arith, none-taken)
