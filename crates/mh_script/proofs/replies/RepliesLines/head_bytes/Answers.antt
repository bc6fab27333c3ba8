use Rattle.mh_script.proofs.RunLemmas.{replies_by_lines}
use Rattle.mh_script.proofs.replies.RepliesLines.head_bytes.Goals as goal

pub returns-clause-by_lines : goal.returns-clause-by_lines
returns-clause-by_lines c = replies_by_lines c.args._config
