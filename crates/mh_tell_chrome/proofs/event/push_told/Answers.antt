use Rattle.std.specs.Prelude.{if◌then◌else◌, []}
use Rattle.mh_tell_chrome.specs.{Deeds.session_thread, Runs.{command_events, is_seen, session_name, thread_events}}
use Rattle.mh_tell_chrome.proofs.TextLemmas.{both_written}
use Rattle.mh_tell_chrome.proofs.event.push_told.Goals as goal

pub returns-in_ok-push_session-in-Session-clause-text : goal.returns-in_ok-push_session-in-Session-clause-text
returns-in_ok-push_session-in-Session-clause-text c =
    let who = c.in-Session.who in
    rw (c.if-not-told.false, c.in-Session.is)
    (both_written _ _ _ (if is_seen c.args.seen.now.items who then [] else thread_events (session_thread who) (session_name who)) (command_events c.args.moment who c.in-Session.command c.args.entry.now.reply c.args.deeds.now)
    c.in_ok-push_seen-in-Session.ensures.text c.in_ok-push_session-in-Session.ensures)
