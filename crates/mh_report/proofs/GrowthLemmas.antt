-- A walk over a trace that grows.
use Rattle.std.proofs.{Common.{◌≡◌, ◌∙◌, ◌++◌, List, length, get_or, ap, arith}, lemmas.List.length-append}
use Rattle.std.specs.List.{All}
use Rattle.mh_model.specs.Trace.{Letter}
use Rattle.mh_report.specs.{declared.segment.Segment.Segment, declared.walk.Walk.Walk, Segments.letters_of}
use Rattle.mh_report.specs.{Points.after, Auxiliary.{IsWalk, KeepsPoints}}
use Rattle.mh_report.proofs.WalkLemmas.{kept_grows}

pub walk_grows : (old new : List Segment) (letters : List Letter) (walk : Walk) → letters_of new ≡ letters_of old ++ letters → KeepsPoints old new letters → IsWalk old walk → IsWalk new walk
walk_grows old new letters walk grown keeps kept =
    let leaving = keeps walk.leaving kept.leaving in
    let entering = keeps walk.entering kept.entering in
    let all = ap length grown ∙ length-append (letters_of old) letters in
    let rest_l = ap length leaving.1 ∙ length-append (after old walk.leaving) letters in
    let rest_e = ap length entering.1 ∙ length-append (after old walk.entering) letters in
    record {
      leaving = leaving.0;
      entering = entering.0;
      slid = rw (grown, leaving.1, entering.1) (kept_grows walk.window walk.count walk.least (letters_of old) (after old walk.leaving) (after old walk.entering) letters kept.slid);
      left = omega (arith, kept.left, all, rest_e);
      long = omega (arith, kept.long, rest_l, rest_e);
      count = kept.count;
    }

pub walks_grow : (old new : List Segment) (letters : List Letter) (walks : List Walk) → letters_of new ≡ letters_of old ++ letters → KeepsPoints old new letters → All (IsWalk old) walks → All (IsWalk new) walks
walks_grow old new letters walks grown keeps kept = λ at other there. walk_grows old new letters (get_or walks at other) grown keeps (kept at other there)
