use Rattle.std.proofs.Common.{sym, ap, ◌∙◌}
use Rattle.mh_model.specs.Replies.{reply_of}
use Rattle.mh_history.proofs.ReplyLemmas.{dump_said}
use Rattle.mh_history.proofs.reply.reply_of.Goals as goal

pub returns-then-is_word-clause-reply : goal.returns-then-is_word-clause-reply
returns-then-is_word-clause-reply c = rw (dump_said c.args.version c.args.words c.in-Some.verb.now c.next_word.new.self c.in-Some.ensures.next (sym c.is_word.ensures ∙ c.if-is_word.true)) c.dump_of.ensures.reply

pub returns-then-is_word-clause-memory : goal.returns-then-is_word-clause-memory
returns-then-is_word-clause-memory c = rw (dump_said c.args.version c.args.words c.in-Some.verb.now c.next_word.new.self c.in-Some.ensures.next (sym c.is_word.ensures ∙ c.if-is_word.true)) c.dump_of.ensures.memory

pub returns-else-is_word-clause-reply : goal.returns-else-is_word-clause-reply
returns-else-is_word-clause-reply c = c.short_reply.ensures (sym c.is_word.ensures ∙ c.if-is_word.false) ∙ ap (reply_of c.args.version) (sym c.in-Some.ensures.next)
