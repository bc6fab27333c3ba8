use Rattle.mh_tell_chrome.proofs.TextLemmas.{written5}
use Rattle.mh_tell_chrome.proofs.trace_event.push_thread_name.Goals as goal

pub returns : goal.returns
returns c =
    written5 _ _ _ _ _ _ _ _ _ _ _ c.in_ok-push_str.ensures.bytes (rw c.from.ensures at c.in_ok-push_decimal.ensures) c.in_ok-push_str-2.ensures.bytes c.in_ok-push_quoted.ensures c.in_ok-push_str-3.ensures.bytes
