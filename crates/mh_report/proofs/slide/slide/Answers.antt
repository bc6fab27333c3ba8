use Rattle.std.proofs.{Common.{◌∙◌, ◌++◌, length, ap, sym, append-nil, append_assoc, arith}, lemmas.List.length-drop}
use Rattle.mh_report.specs.{Segments.letter_of, Slides.passings, Points.after}
use Rattle.mh_report.proofs.WalkLemmas.{length-alike, no_letters}
use Rattle.mh_report.proofs.slide.slide.Goals as goal

pub loop-left-init : goal.loop-left-init
loop-left-init g c = grind (arith, length-drop)

pub loop-left-preserved : goal.loop-left-preserved
loop-left-preserved g c =
    let segments = c.args.segments.now in
    let passed = c.pass-enters.ensures.passed in
    let n = c.pass-enters.result.count in
    let letter = letter_of c.pass-enters.result.unit in
    let rest = after segments c.pass-enters.new.self in
    let whole = ap length passed ∙ length-alike n letter rest in
    let so_far = c.loop-left.invariant.slides in
    let over = c.slide_over.ensures.slides rest in
    record {
      leaving = c.slide_over.ensures.point;
      entering = c.pass-enters.ensures.point;
      left = omega (arith, whole, c.loop-left.invariant.left, c.pass-enters.ensures.within);
      long = omega (arith, c.slide_over.ensures.left, c.loop-left.invariant.long);
      room = omega (arith, c.slide_over.ensures.room, c.loop-left.invariant.room);
      slides = (
        so_far.0 ++ over.0,
        g.met.S.Slider.onward _ _ _ so_far.0 over.0 so_far.1 over.1,
        so_far.2
            ∙ ap (λ entering. so_far.0 ++ passings (after segments c.loop-left.leaving) entering) passed
            ∙ ap (λ ps. so_far.0 ++ ps) over.2
            ∙ sym (append_assoc so_far.0 over.0 (passings (after segments c.slide_over.new.leaving) rest)),
      );
    }

pub returns : goal.returns
returns g c = grind (arith, no_letters, append-nil)
