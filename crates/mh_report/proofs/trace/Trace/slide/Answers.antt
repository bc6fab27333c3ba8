use Rattle.std.proofs.Common.{arith}
use Rattle.mh_report.proofs.{SegmentLemmas.counts_whole, SlideLemmas.{passings_none, some_segment}}
use Rattle.mh_report.proofs.trace.Trace.slide.Goals as goal

pub returns-then-letters-eq0 : goal.returns-then-letters-eq0
returns-then-letters-eq0 g c = grind (arith, passings_none, counts_whole)

pub slide-requires-clause-some : goal.slide-requires-clause-some
slide-requires-clause-some g c = grind (arith, some_segment, counts_whole)

pub slide-requires-clause-letters : goal.slide-requires-clause-letters
slide-requires-clause-letters g c = grind (arith, counts_whole)

pub slide-requires-clause-window : goal.slide-requires-clause-window
slide-requires-clause-window g c = grind (arith, counts_whole)

pub slide-requires-clause-room : goal.slide-requires-clause-room
slide-requires-clause-room g c = grind (arith, counts_whole)
