-- Points in the segments of a trace.
use Rattle.std.specs.Prelude.{List}
use Rattle.mh_model.specs.Trace.{Letter}
use Rattle.mh_report.specs.{declared.segment.Segment.Segment, declared.point.Point.Point, Segments.letters_after}

-- the letters after it
abbrev pub after : List Segment → Point → List Letter
after segments point = letters_after segments point.segment point.passed
