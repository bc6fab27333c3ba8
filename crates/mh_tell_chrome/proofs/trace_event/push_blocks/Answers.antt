use Rattle.std.specs.Prelude.{◌++◌, codes, decimal}
use Rattle.mh_tell_chrome.proofs.TextLemmas.{blocks_written}
use Rattle.mh_tell_chrome.proofs.trace_event.push_blocks.Goals as goal

pub returns : goal.returns
returns c =
    blocks_written _ _ _ _ _ (decimal c.args.time) (codes "blocks") (codes "live") (decimal c.args.live) (codes ",\"old\":" ++ decimal c.args.old) c.in_ok-push_counter_front.ensures c.in_ok-push_decimal.ensures c.in_ok-push_number.ensures
    c.in_ok-push_str.ensures.bytes
