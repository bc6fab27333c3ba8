use Rattle.std.proofs.Common.{rules}
use Rattle.mh_text.proofs.ReplyLemmas.{dump_text}
use Rattle.mh_text.proofs.reply_text.ReplyTextDisplay.fmt.Goals as goal

pub returns-in-Dump-clause-writes : goal.returns-in-Dump-clause-writes
returns-in-Dump-clause-writes g c = rw (c.in-Dump.is, dump_text) (search rules)
