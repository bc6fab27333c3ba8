use Rattle.std.specs.Prelude.{◌==◌, ◌&&◌, ◌++◌}
use Rattle.mh_tell_chrome.specs.Deeds.{blocks_counter, grey_counter, pages_counter, unless_same}
use Rattle.mh_tell_chrome.proofs.TextLemmas.{both_written}
use Rattle.mh_tell_chrome.proofs.counters.push_counters.Goals as goal

pub returns : goal.returns
returns c =
    let shown = c.args.shown in
    let counts = c.args.counts in
    let pages = unless_same (shown.free == counts.free) (pages_counter c.args.now counts) in
    let blocks = unless_same ((shown.live == counts.live) && (shown.old == counts.old)) (blocks_counter c.args.now counts) in
    let grey = unless_same (shown.grey == counts.grey) (grey_counter c.args.now counts) in
    both_written _ _ _ pages (blocks ++ grey) c.in_ok-push_pages_unless_same.ensures (both_written _ _ _ blocks grey c.in_ok-push_blocks_unless_same.ensures c.in_ok-push_grey_unless_same.ensures)
