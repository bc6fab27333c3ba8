use Rattle.std.proofs.Common.{◌≡◌, ◌+◌, ◌-◌, length}
use Rattle.mh_report.specs.Auxiliary.{IsWalk}
use Rattle.mh_report.proofs.walk.Walk.to_end.Given as goal

abbrev pub invariant-loop-walk : goal.invariant-loop-walk
invariant-loop-walk l = record {
  walk : IsWalk l.segments l.walk;
  window : l.walk.window ≡ l.fn.self.window;
}

abbrev pub decreases-loop-walk : goal.decreases-loop-walk
decreases-loop-walk l = (l.letters - l.walk.end) + (length l.segments - l.walk.entering.segment)
