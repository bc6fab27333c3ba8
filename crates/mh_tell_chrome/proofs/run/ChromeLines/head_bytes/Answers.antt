use Rattle.mh_tell_chrome.proofs.SceneLemmas.{file_by_lines}
use Rattle.mh_tell_chrome.proofs.run.ChromeLines.head_bytes.Goals as goal

pub returns-clause-head : goal.returns-clause-head
returns-clause-head c = rw c.requires.first at c.head_text.ensures

pub returns-clause-by_lines : goal.returns-clause-by_lines
returns-clause-by_lines c = file_by_lines c.args.self.options c.args._config
