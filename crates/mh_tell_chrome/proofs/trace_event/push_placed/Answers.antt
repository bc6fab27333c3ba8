use Rattle.mh_tell_chrome.proofs.TextLemmas.{written6}
use Rattle.mh_tell_chrome.proofs.trace_event.push_placed.Goals as goal

pub returns : goal.returns
returns c =
    written6 _ _ _ _ _ _ _ _ _ _ _ _ _ c.in_ok-push_str.ensures.bytes c.in_ok-push_str-2.ensures.bytes c.in_ok-push_str-3.ensures.bytes c.in_ok-push_decimal.ensures c.in_ok-push_str-4.ensures.bytes (rw c.from.ensures at c.in_ok-push_decimal-2.ensures)
