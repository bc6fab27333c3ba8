use Rattle.std.proofs.Common.{◌≡◌, ◌+◌, ◌-◌, min, length, arith}
use Rattle.mh_report.proofs.SegmentLemmas.{counts_whole}
use Rattle.mh_run_laws.proofs.windows.FloorLemmas.{floor_of_part, one_decides}
use Rattle.mh_windows.proofs.floor.broken_floor.Goals as goal

pub overflow_add-letters : goal.overflow_add-letters
overflow_add-letters c = grind (arith, counts_whole)

pub unreachable-requires : goal.unreachable-requires
unreachable-requires c = omega (arith, c.in_default.ensures.none, c.min-window.ensures, counts_whole c.args.trace.now.trace.letters, c.mutator_count.ensures, c.collector_count.ensures)

pub returns-then-floor-lowest-clause-none : goal.returns-then-floor-lowest-clause-none
returns-then-floor-lowest-clause-none c =
    let letters = c.args.trace.now.trace.letters in
    let m = c.args.m in
    let k = c.args.k in
    let window : c.min-window.result ≡ min (m + k) (length letters) = omega (arith, c.min-window.ensures, counts_whole letters, c.mutator_count.ensures, c.collector_count.ensures) in
    grind (arith, floor_of_part, one_decides)
