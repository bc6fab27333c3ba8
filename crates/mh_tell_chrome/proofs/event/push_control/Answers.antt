use Rattle.std.specs.Prelude.{codes}
use Rattle.mh_model.specs.{Bytes.joined, HistoryTexts.event_words}
use Rattle.mh_tell_chrome.specs.{Deeds.controls, Runs.event_fields, TraceEvents.{Instant, arguments_text, placed_text}}
use Rattle.mh_tell_chrome.proofs.TextLemmas.{named_written, one_written}
use Rattle.mh_tell_chrome.proofs.event.push_control.Goals as goal

pub returns : goal.returns
returns c =
    let event = c.args.entry.now.event in
    let fields = event_fields c.args.moment.number c.args.entry.now.reply in
    one_written _ _ (Instant c.args.moment.at controls (joined (event_words event)) fields)
    (named_written _ _ _ _ _ _ _ (placed_text (codes "{\"ph\":\"i\",\"s\":\"t\"") c.args.moment.at controls) (joined (event_words event)) (arguments_text fields) c.in_ok-push_placed.ensures c.in_ok-push_str.ensures.bytes c.in_ok-push_event.ensures
    c.in_ok-push_str-2.ensures.bytes c.in_ok-push_arguments.ensures c.in_ok-push_str-3.ensures.bytes)
