use Rattle.std.proofs.Common.{◌≡◌, ◌+◌, ◌-◌, ◌≤◌, ◌++◌, List, length}
use Rattle.mh_report.specs.{Auxiliary.IsPoint, Points.after, Segments.letters_of}
use Rattle.mh_report.specs.Slides.{Passing, passings, passings_of}
use Rattle.mh_report.proofs.slide.slide.Given as goal

abbrev pub invariant-loop-left : goal.invariant-loop-left
invariant-loop-left g l = record {
  leaving : IsPoint l.segments l.leaving;
  entering : IsPoint l.segments l.entering;
  left : l.left ≡ length (after l.segments l.entering);
  long : l.left ≤ length (after l.segments l.leaving);
  room : l.left ≤ g.S.Slider.room l.slider;
  slides : (before : List Passing) × g.S.Slider.slides l.fn.slider before l.slider × (passings_of l.window (letters_of l.segments) ≡ before ++ passings (after l.segments l.leaving) (after l.segments l.entering));
}

abbrev pub decreases-loop-left : goal.decreases-loop-left
decreases-loop-left g l = l.left + (length l.segments - l.entering.segment)
