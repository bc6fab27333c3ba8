use Rattle.std.proofs.Common.{ℕ, ◌<◌, get_or}
use Rattle.mh_scan.specs.Scanning.{IsScannable}
use Rattle.call_tests.proofs.scan_tests.are_scannable.Given as goal

abbrev pub invariant-loop-place : goal.invariant-loop-place
invariant-loop-place l = (k : ℕ) → k < l.place-index → IsScannable l.blocks (get_or l.batch k 0)
