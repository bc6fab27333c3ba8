use Rattle.std.proofs.Common.{◌≡◌, ◌∙◌, [], length, ap, arith}
use Rattle.mh_report.specs.{declared.walk.Walk.Walk, Segments.{letter_of, letters_of}, Points.after}
use Rattle.mh_report.proofs.WalkLemmas.{length-alike, kept_answer, no_letters}
use Rattle.mh_report.proofs.walk.Walk.to_end.Goals as goal

pub loop-walk-smaller : goal.loop-walk-smaller
loop-walk-smaller c = grind arith

pub loop-walk-preserved : goal.loop-walk-preserved
loop-walk-preserved c =
    let segments = c.args.segments.now in
    let walk = c.loop-walk.walk in
    let next = c.over-walk.result in
    let kept = c.loop-walk.invariant.walk in
    let n = c.pass-entering.result.count in
    let e = letter_of c.pass-entering.result.unit in
    let rest = after segments c.pass-entering.new.self in
    let passed = c.pass-entering.ensures.passed in
    let window_is : next.window ≡ walk.window = ap (λ (w : Walk). w.window) c.over-walk.ensures.same in
    let end_is : next.end ≡ walk.end = ap (λ (w : Walk). w.end) c.over-walk.ensures.same in
    let point_is : next.entering ≡ c.pass-entering.new.self = ap (λ (w : Walk). w.entering) c.over-walk.ensures.same in
    let whole = ap length passed ∙ length-alike n e rest in
    let rest_is = ap (λ point. length (after segments point)) point_is in
    record {
      walk = record {
        leaving = c.over-walk.ensures.point;
        entering = rw point_is c.pass-entering.ensures.point;
        slid = rw (window_is, point_is) (c.over-walk.ensures.slid (letters_of segments) rest (rw passed at kept.slid));
        left = omega (arith, kept.left, whole, rest_is, end_is);
        long = omega (arith, kept.long, whole, rest_is, c.over-walk.ensures.left);
        count = omega (arith, kept.count, end_is, c.over-walk.ensures.count);
      };
      window = window_is ∙ c.loop-walk.invariant.window;
    }

pub returns-clause-least : goal.returns-clause-least
returns-clause-least c =
    let segments = c.args.segments.now in
    let walk = c.loop-walk.walk in
    let kept = c.loop-walk.invariant.walk in
    let ended : after segments walk.entering ≡ [] = no_letters _ (omega (arith, kept.left, c.requires.letters)) in
    rw (← c.loop-walk.invariant.window) (kept_answer walk.window walk.count walk.least (letters_of segments) (after segments walk.leaving) (rw (← ended) kept.slid))
