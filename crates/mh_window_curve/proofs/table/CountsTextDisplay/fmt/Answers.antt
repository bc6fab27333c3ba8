use Rattle.std.proofs.Common.{rules}
use Rattle.mh_window_curve.proofs.table.CountsTextDisplay.fmt.Goals as goal

pub returns-in-None-clause-writes : goal.returns-in-None-clause-writes
returns-in-None-clause-writes g c = rw c.in-None.is (search rules)

pub returns-in-Some-clause-writes : goal.returns-in-Some-clause-writes
returns-in-Some-clause-writes g c = rw c.in-Some.is (search rules)
