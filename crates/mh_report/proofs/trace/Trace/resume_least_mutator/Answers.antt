use Rattle.std.proofs.Common.{arith}
use Rattle.mh_report.proofs.{SegmentLemmas.counts_whole, WalkLemmas.least_none}
use Rattle.mh_report.proofs.trace.Trace.resume_least_mutator.Goals as goal

pub returns-then-window-letters-clause-value : goal.returns-then-window-letters-clause-value
returns-then-window-letters-clause-value c = grind (arith, least_none, counts_whole)

pub first-begun-requires-clause-long : goal.first-begun-requires-clause-long
first-begun-requires-clause-long c = grind (arith, counts_whole)

pub to_end-walk-requires-clause-letters : goal.to_end-walk-requires-clause-letters
to_end-walk-requires-clause-letters c = grind (arith, counts_whole)

pub invariant_of-self : goal.invariant_of-self
invariant_of-self c =
    let walk = c.to_end-walk.ensures.walk in
    (c.self.invariant.0, c.self.invariant.1, c.self.invariant.2, c.keep.ensures.walks c.self.inside.segments.items c.self.invariant.3 (rw c.as_slice-segments.ensures.value at walk), c.keep.ensures.order)
