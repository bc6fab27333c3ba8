use Rattle.std.specs.Prelude.{codes, decimal}
use Rattle.mh_tell_chrome.specs.TraceEvents.{placed_text}
use Rattle.mh_tell_chrome.proofs.TextLemmas.{numbered_written}
use Rattle.mh_tell_chrome.proofs.trace_event.push_begin_numbered.Goals as goal

pub returns : goal.returns
returns c =
    numbered_written _ _ _ _ _ _ (placed_text (codes "{\"ph\":\"B\"") c.args.time c.args.thread) c.args.name.now (decimal c.args.number) c.in_ok-push_placed.ensures c.in_ok-push_str.ensures.bytes c.in_ok-push_str-2.ensures.bytes c.in_ok-push_decimal.ensures c.in_ok-push_str-3.ensures.bytes
