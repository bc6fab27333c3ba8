use Rattle.mh_tell_cycles.proofs.RunLemmas.{run-is}
use Rattle.mh_tell_cycles.proofs.run.CyclesLines.head_bytes.Goals as goal

pub returns-clause-by_lines : goal.returns-clause-by_lines
returns-clause-by_lines c = run-is c.args._config
