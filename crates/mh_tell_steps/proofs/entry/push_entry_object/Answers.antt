use Rattle.std.specs.Prelude.{decimal}
use Rattle.mh_model.specs.{Bytes.joined, HistoryTexts.event_words, Replies.reply_text}
use Rattle.mh_tell_steps.specs.Lines.{event_key}
use Rattle.mh_tell_steps.proofs.LineLemmas.{object_written}
use Rattle.mh_tell_steps.proofs.entry.push_entry_object.Goals as goal

pub returns : goal.returns
returns c =
    object_written _ _ _ _ _ _ _ _ _ _ (event_key c.args.moment.number) (joined (event_words c.args.entry.now.event)) (reply_text c.args.entry.now.reply) (decimal c.args.moment.at) (decimal c.args.moment.mutator)
    c.in_ok-push_event_key.ensures c.in_ok-push_str.ensures.bytes c.in_ok-push_event.ensures c.in_ok-push_str-2.ensures.bytes c.in_ok-push_reply.ensures c.in_ok-push_str-3.ensures.bytes c.in_ok-push_number.ensures (rw c.from.ensures at c.in_ok-push_number-2.ensures)
    c.in_ok-push_line_end.ensures
