use Rattle.std.proofs.Common.{◌≡◌, length}
use Rattle.mh_model.specs.Bytes.{parts_at}
use Rattle.mh_command_line.specs.Rates.{rated_in, rated_of, rates_in}
use Rattle.mh_command_line.proofs.rates.rates_in.Given as goal

abbrev pub invariant-loop-first : goal.invariant-loop-first
invariant-loop-first l = rated_in (rated_of l.rates) (parts_at 44 l.rest) ≡ rates_in l.text

abbrev pub decreases-loop-first : goal.decreases-loop-first
decreases-loop-first l = length l.rest
