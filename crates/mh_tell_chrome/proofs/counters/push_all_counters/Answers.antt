use Rattle.mh_tell_chrome.specs.Deeds.{blocks_counter, grey_counter, pages_counter}
use Rattle.mh_tell_chrome.proofs.TextLemmas.{three_written}
use Rattle.mh_tell_chrome.proofs.counters.push_all_counters.Goals as goal

pub returns : goal.returns
returns c =
    three_written _ _ _ _ (pages_counter c.args.now c.args.counts) (blocks_counter c.args.now c.args.counts) (grey_counter c.args.now c.args.counts) c.in_ok-push_counter.ensures c.in_ok-push_blocks.ensures c.in_ok-push_counter-2.ensures
