use Rattle.std.proofs.Common.{◌≡◌, ◌+◌, ◌-◌, ◌≤◌, drop, length}
use Rattle.mh_report.specs.{Auxiliary.IsPoint, Points.after, Segments.letters_of}
use Rattle.mh_report.proofs.slide.point_after.Given as goal

abbrev pub invariant-loop-left : goal.invariant-loop-left
invariant-loop-left l = record {
  point : IsPoint l.segments l.point;
  rest : drop l.many (letters_of l.segments) ≡ drop l.left (after l.segments l.point);
  long : l.left ≤ length (after l.segments l.point);
}

abbrev pub decreases-loop-left : goal.decreases-loop-left
decreases-loop-left l = l.left + (length l.segments - l.point.segment)
