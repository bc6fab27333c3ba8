use Rattle.std.proofs.Common.{◌≡◌, length, is_some}
use Rattle.mh_model.specs.Replies.{dump_of}
use Rattle.mh_history.proofs.DumpLemmas.{goes_on}
use Rattle.mh_history.proofs.dump.is_dump.Given as goal

abbrev pub invariant-loop-word : goal.invariant-loop-word
invariant-loop-word l = goes_on l.reached.page l.reached.slot l.words ≡ is_some (dump_of l.fn.words)

abbrev pub decreases-loop-word : goal.decreases-loop-word
decreases-loop-word l = length l.words
