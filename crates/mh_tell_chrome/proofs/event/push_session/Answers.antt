use Rattle.mh_model.specs.{Bytes.joined, Forms.{command_phrase, phrase_words}}
use Rattle.mh_tell_steps.specs.Figures.{quantum_at}
use Rattle.mh_tell_chrome.specs.{Deeds.session_thread, Runs.{command_fields, shade_count}, TraceEvents.{Begin, End}}
use Rattle.mh_tell_chrome.proofs.TextLemmas.{two_written}
use Rattle.mh_tell_chrome.proofs.event.push_session.Goals as goal

pub returns : goal.returns
returns c =
    two_written _ _ _ (Begin c.args.moment.at (session_thread c.args.who) (joined (phrase_words (command_phrase c.args.command))) (command_fields c.args.moment.number c.args.reply.now (shade_count c.args.deeds.now))) (End (quantum_at c.args.moment) (session_thread c.args.who))
    (rw c.shade_count.ensures at c.in_ok-push_slice.ensures) (rw (c.from-2.ensures, c.from.ensures) at c.in_ok-push_end.ensures)
