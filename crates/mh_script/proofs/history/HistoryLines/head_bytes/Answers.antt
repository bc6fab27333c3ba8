use Rattle.mh_script.proofs.HistoryLemmas.{history_by_lines}
use Rattle.mh_script.proofs.history.HistoryLines.head_bytes.Goals as goal

pub returns-in_err-header-clause-by_lines : goal.returns-in_err-header-clause-by_lines
returns-in_err-header-clause-by_lines c = history_by_lines c.args.config

pub returns-clause-by_lines : goal.returns-clause-by_lines
returns-clause-by_lines c = history_by_lines c.args.config
