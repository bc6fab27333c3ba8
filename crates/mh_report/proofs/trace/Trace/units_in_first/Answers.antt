use Rattle.std.proofs.Common.{arith}
use Rattle.mh_report.proofs.trace.Trace.units_in_first.Goals as goal

pub returns : goal.returns
returns c = grind arith
