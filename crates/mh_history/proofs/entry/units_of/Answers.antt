use Rattle.mh_history.proofs.EntryLemmas.{units_none}
use Rattle.mh_history.proofs.entry.units_of.Goals as goal

pub returns-in_err-numbers-clause-none : goal.returns-in_err-numbers-clause-none
returns-in_err-numbers-clause-none c = rw c.from_residual.ensures (units_none c.args.words c.in_err-numbers.ensures.none)
