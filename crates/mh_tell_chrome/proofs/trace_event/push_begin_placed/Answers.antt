use Rattle.std.specs.Prelude.{codes}
use Rattle.mh_tell_steps.specs.Lines.{place_text}
use Rattle.mh_tell_chrome.specs.TraceEvents.{placed_text}
use Rattle.mh_tell_chrome.proofs.TextLemmas.{numbered_written}
use Rattle.mh_tell_chrome.proofs.trace_event.push_begin_placed.Goals as goal

pub returns : goal.returns
returns c =
    numbered_written _ _ _ _ _ _ (placed_text (codes "{\"ph\":\"B\"") c.args.time c.args.thread) c.args.name.now (place_text c.args.place) c.in_ok-push_placed.ensures c.in_ok-push_str.ensures.bytes c.in_ok-push_str-2.ensures.bytes c.in_ok-push_page_and_slot.ensures c.in_ok-push_str-3.ensures.bytes
