use Rattle.std.proofs.Common.{◌∙◌, sym}
use Rattle.mh_windows.proofs.LengthLemmas.{turns_of, within_longest}
use Rattle.mh_windows.proofs.pauses.pause_counts.Goals as goal

pub percentile-requires-clause-longest : goal.percentile-requires-clause-longest
percentile-requires-clause-longest c = within_longest _ _ c.longest_pause-longest.ensures ∙ sym c.tally_of-pauses.ensures.pauses

pub percentile-requires-2-clause-longest : goal.percentile-requires-2-clause-longest
percentile-requires-2-clause-longest c = within_longest _ _ c.longest_pause-longest.ensures ∙ sym c.tally_of-pauses.ensures.pauses

pub percentile-requires-3-clause-longest : goal.percentile-requires-3-clause-longest
percentile-requires-3-clause-longest c = within_longest _ _ c.longest_pause-longest.ensures ∙ sym c.tally_of-pauses.ensures.pauses

pub returns-clause-turns : goal.returns-clause-turns
returns-clause-turns c = turns_of c.args.trace.now.trace.letters
