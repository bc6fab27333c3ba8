use Rattle.std.proofs.Common.{◌≡◌, ◌+◌, ◌-◌, ◌≤◌, ◌++◌, List, length, replicate}
use Rattle.mh_model.specs.Trace.{Letter}
use Rattle.mh_report.specs.{Segments.letter_of, Auxiliary.{HasSlid, IsPoint}, Points.after}
use Rattle.mh_report.proofs.walk.Walk.over.Given as goal

abbrev pub invariant-loop-left : goal.invariant-loop-left
invariant-loop-left l = record {
  point : IsPoint l.segments l.walk.leaving;
  slid : (letters rest : List Letter)
      → HasSlid l.fn.self.window letters l.fn.self.count l.fn.self.least (after l.segments l.fn.self.leaving) (replicate l.entering.count (letter_of l.entering.unit) ++ rest)
      → HasSlid l.fn.self.window letters l.walk.count l.walk.least (after l.segments l.walk.leaving) (replicate l.left (letter_of l.entering.unit) ++ rest);
  shorter : length (after l.segments l.walk.leaving) + l.entering.count ≡ length (after l.segments l.fn.self.leaving) + l.left;
  small : l.left ≤ l.entering.count;
  count : l.walk.count + l.left ≤ l.fn.self.count + l.entering.count;
  same : l.walk ≡ record l.fn.self { leaving = l.walk.leaving; count = l.walk.count; least = l.walk.least };
}

abbrev pub decreases-loop-left : goal.decreases-loop-left
decreases-loop-left l = l.left + (length l.segments - l.walk.leaving.segment)
