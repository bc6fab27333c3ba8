use Rattle.std.specs.Prelude.{decimal}
use Rattle.mh_tell_chrome.proofs.TextLemmas.{counter_written}
use Rattle.mh_tell_chrome.proofs.trace_event.push_counter.Goals as goal

pub returns : goal.returns
returns c =
    counter_written _ _ _ _ (decimal c.args.time) c.args.name.now c.args.key.now (decimal c.args.number) c.in_ok-push_counter_front.ensures c.in_ok-push_decimal.ensures c.in_ok-push_str.ensures.bytes
