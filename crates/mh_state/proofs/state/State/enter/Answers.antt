use Rattle.std.proofs.Common.{◌≡◌, ◌≢◌, length, ap, ◌∙◌, arith}
use Rattle.mh_model.specs.Limits.{most_entries}
use Rattle.mh_state.specs.Storing.{with_entry}
use Rattle.mh_state.proofs.StoringLemmas.{stored-on, config-on}
use Rattle.mh_state.proofs.state.State.enter.Goals as goal

pub invariant_of-self : goal.invariant_of-self
invariant_of-self g c = rw c.prepare.ensures.kept c.self.invariant

pub invariant_of-self-in-Ok : goal.invariant_of-self-in-Ok
unfolding most_entries
invariant_of-self-in-Ok g c =
    let more : length c.self.inside.history.items ≢ most_entries = omega (arith, c.self.inside.history.ok.0) in
    let copied : c.copies_of-copy.result.0 ≡ c.in_ok-reply-in-Ok.reply = ap (λ both. both.0) c.copies_of-copy.ensures in
    let pushed : c.push_reserved.new.self.items ≡ with_entry c.self.inside.history.items c.args.event c.copies_of-copy.result.0 = c.push_reserved.ensures.items ∙ ap (λ items. with_entry items c.args.event c.copies_of-copy.result.0) c.prepare.ensures.kept in
    let entered : c.push_reserved.new.self.items ≡ with_entry c.self.inside.history.items c.args.event c.in_ok-reply-in-Ok.reply = pushed ∙ ap (with_entry c.self.inside.history.items c.args.event) copied in
    rw entered (stored-on c.events_keep_the_replay.ensures c.self.inside.machine c.step_in_room.new.self c.self.inside.history.items c.args.event c.in_ok-reply-in-Ok.reply c.self.invariant more c.in_ok-reply-in-Ok.ensures.step)

pub returns-in_ok-reply-in-Ok-clause-config : goal.returns-in_ok-reply-in-Ok-clause-config
returns-in_ok-reply-in-Ok-clause-config g c = rw (← c.self.view_is) (config-on c.events_keep_the_replay.ensures c.self.inside.machine c.step_in_room.new.self c.self.inside.history.items c.args.event c.in_ok-reply-in-Ok.reply c.self.invariant c.in_ok-reply-in-Ok.ensures.step)
