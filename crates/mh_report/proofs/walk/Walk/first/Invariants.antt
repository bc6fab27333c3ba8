use Rattle.std.proofs.Common.{◌≡◌, ◌+◌, ◌-◌, ◌≤◌, length, take, drop}
use Rattle.mh_model.specs.Trace.{mutator_count}
use Rattle.mh_report.specs.{Segments.letters_of, Auxiliary.IsPoint, Points.after}
use Rattle.mh_report.proofs.walk.Walk.first.Given as goal

abbrev pub invariant-loop-left : goal.invariant-loop-left
invariant-loop-left l = record {
  point : IsPoint l.segments l.entering;
  counted : mutator_count (take l.window (letters_of l.segments)) ≡ l.count + mutator_count (take l.left (after l.segments l.entering));
  rest : drop l.window (letters_of l.segments) ≡ drop l.left (after l.segments l.entering);
  long : l.left ≤ length (after l.segments l.entering);
  small : l.count + l.left ≤ l.window;
}

abbrev pub decreases-loop-left : goal.decreases-loop-left
decreases-loop-left l = l.left + (length l.segments - l.entering.segment)
