use Rattle.std.proofs.Common.{refl, arith}
use Rattle.mh_report.proofs.SegmentLemmas.{counts_whole}
use Rattle.mh_windows.proofs.LengthLemmas.{pauses_counted, within_counted}
use Rattle.mh_windows.proofs.pauses.tally_of.Goals as goal

pub overflow_add-counting : goal.overflow_add-counting
overflow_add-counting c = grind (arith, counts_whole)

pub invariant_of-counting : goal.invariant_of-counting
invariant_of-counting c = grind (arith, counts_whole)

pub slide-requires-clause-room : goal.slide-requires-clause-room
slide-requires-clause-room c = omega (arith, counts_whole c.args.trace.now.trace.letters, c.mutator_count.ensures, c.collector_count.ensures)

pub returns-clause-pauses : goal.returns-clause-pauses
returns-clause-pauses c =
    let goes = rw (← c.counting.view_is) at c.slide.ensures in
    pauses_counted c.args.trace.now.trace.letters _ _ refl goes c.with_pause.result.pauses refl c.with_pause.ensures.pauses

pub returns-clause-within : goal.returns-clause-within
returns-clause-within c =
    let goes = rw (← c.counting.view_is) at c.slide.ensures in
    within_counted c.args.trace.now.trace.letters _ _ refl goes c.with_pause.result.within c.args.bound refl refl c.with_pause.ensures.within
