use Rattle.std.proofs.Common.{◌≡◌, ◌+◌, ◌-◌, ◌≤◌, ◌++◌, List, length, replicate}
use Rattle.mh_model.specs.Trace.{Letter}
use Rattle.mh_report.specs.{Auxiliary.IsPoint, Points.after, Segments.letter_of, Slides.{Passing, passings}}
use Rattle.mh_report.proofs.slide.slide_over.Given as goal

abbrev pub invariant-loop-left : goal.invariant-loop-left
invariant-loop-left g l = record {
  point : IsPoint l.segments l.leaving;
  shorter : length (after l.segments l.leaving) + l.entering.count ≡ length (after l.segments l.initial.leaving) + l.left;
  small : l.left ≤ l.entering.count;
  room : g.S.Slider.room l.slider + l.entering.count ≡ g.S.Slider.room l.initial.slider + l.left;
  slides : (rest : List Letter) → (before : List Passing) × g.S.Slider.slides l.initial.slider before l.slider
      × (passings (after l.segments l.initial.leaving) (replicate l.entering.count (letter_of l.entering.unit) ++ rest) ≡ before ++ passings (after l.segments l.leaving) (replicate l.left (letter_of l.entering.unit) ++ rest));
}

abbrev pub decreases-loop-left : goal.decreases-loop-left
decreases-loop-left g l = l.left + (length l.segments - l.leaving.segment)
