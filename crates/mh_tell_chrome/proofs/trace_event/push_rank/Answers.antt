use Rattle.mh_tell_chrome.proofs.TextLemmas.{written5}
use Rattle.mh_tell_chrome.proofs.trace_event.push_rank.Goals as goal

pub returns : goal.returns
returns c =
    written5 _ _ _ _ _ _ _ _ _ _ _ c.in_ok-push_str.ensures.bytes (rw c.from.ensures at c.in_ok-push_decimal.ensures) c.in_ok-push_str-2.ensures.bytes (rw c.from-2.ensures at c.in_ok-push_decimal-2.ensures) c.in_ok-push_str-3.ensures.bytes
