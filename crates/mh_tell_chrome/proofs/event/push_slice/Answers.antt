use Rattle.std.specs.Prelude.{codes}
use Rattle.mh_model.specs.{Bytes.joined, Forms.{command_phrase, phrase_words}}
use Rattle.mh_tell_chrome.specs.{Deeds.session_thread, Runs.command_fields, TraceEvents.{arguments_text, placed_text}}
use Rattle.mh_tell_chrome.proofs.TextLemmas.{named_written}
use Rattle.mh_tell_chrome.proofs.event.push_slice.Goals as goal

pub returns : goal.returns
returns c =
    named_written _ _ _ _ _ _ _ (placed_text (codes "{\"ph\":\"B\"") c.args.moment.at (session_thread c.args.who)) (joined (phrase_words (command_phrase c.args.command))) (arguments_text (command_fields c.args.moment.number c.args.reply.now c.args.shaded))
    (rw c.from.ensures at c.in_ok-push_placed.ensures) c.in_ok-push_str.ensures.bytes c.in_ok-push_command.ensures c.in_ok-push_str-2.ensures.bytes c.in_ok-push_arguments.ensures c.in_ok-push_str-3.ensures.bytes
