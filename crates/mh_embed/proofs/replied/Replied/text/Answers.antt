use Rattle.std.proofs.Common.{rules, refl, ◌≡◌, ◌∙◌}
use Rattle.mh_model.specs.Replies.{reply_text}
use Rattle.mh_embed.specs.Endings.{NoReply, NoText, Told}
use Rattle.mh_embed.proofs.replied.Replied.text.Goals as goal

pub returns-in_default-clause-ends : goal.returns-in_default-clause-ends
returns-in_default-clause-ends c = NoReply (search rules) refl refl

pub returns-in_default-write_reply-clause-ends : goal.returns-in_default-write_reply-clause-ends
returns-in_default-write_reply-clause-ends c = NoText refl refl

pub returns-clause-ends : goal.returns-clause-ends
returns-clause-ends c =
    let text : c.as_bytes.result.now ≡ reply_text c.in-Some.reply = c.as_bytes.ensures.value ∙ c.in-Ok.ensures in
    Told c.in-Some.reply c.give.result (search rules) (rw (← text) c.give.ensures)
