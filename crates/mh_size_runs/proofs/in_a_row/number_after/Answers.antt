use Rattle.std.proofs.Common.{sym, arith}
use Rattle.mh_size_runs.proofs.InARowLemmas.{get-none}
use Rattle.mh_size_runs.proofs.in_a_row.number_after.Goals as goal

pub returns-else-count-numbers : goal.returns-else-count-numbers
returns-else-count-numbers c = sym (get-none c.args.numbers.now _ (omega (arith, c.if-count-numbers.false)))
