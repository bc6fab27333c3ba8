use Rattle.std.proofs.Common.{ℕ, ◌-◌, ◌*◌, ◌<◌, ◌≤◌, length}
use Rattle.mh_windows.specs.Lengths.{CoversPart, pauses_of, within}
use Rattle.mh_windows.proofs.pauses.percentile.Given as goal

abbrev pub invariant-loop-low : goal.invariant-loop-low
invariant-loop-low l =
    (l.low ≤ l.high) × (l.high ≤ l.longest) × CoversPart l.part (pauses_of l.trace.trace.letters) l.high × ((fewer : ℕ) → fewer < l.low → 100 * within fewer (pauses_of l.trace.trace.letters) < l.part * length (pauses_of l.trace.trace.letters))

abbrev pub decreases-loop-low : goal.decreases-loop-low
decreases-loop-low l = l.high - l.low
