use Rattle.mh_reasons.proofs.EntryLemmas.{reply_none}
use Rattle.mh_reasons.proofs.entry.entry_reason.Goals as goal

pub reply_reason-requires : goal.reply_reason-requires
reply_reason-requires c = reply_none c.args.version c.args.words _ c.requires c.in-Some.ensures.some c.in-None.ensures.none
