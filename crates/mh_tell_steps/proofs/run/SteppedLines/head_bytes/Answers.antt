use Rattle.std.proofs.Common.{append-nil}
use Rattle.mh_tell_steps.proofs.run.SteppedLines.head_bytes.Goals as goal

pub returns-clause-by_lines : goal.returns-clause-by_lines
returns-clause-by_lines c = λ events. append-nil _
