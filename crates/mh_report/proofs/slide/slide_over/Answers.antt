use Rattle.std.proofs.Common.{◌≡◌, ◌∙◌, ◌-◌, ◌++◌, replicate, length, ap, sym, append_assoc, arith}
use Rattle.mh_report.specs.{Segments.letter_of, Slides.{alike, passings}, Points.after}
use Rattle.mh_report.proofs.{WalkLemmas.length-alike, SlideLemmas.passings_some}
use Rattle.mh_report.proofs.slide.slide_over.Goals as goal

pub loop-left-init : goal.loop-left-init
loop-left-init g c = grind arith

pub loop-left-preserved : goal.loop-left-preserved
loop-left-preserved g c =
    let segments = c.args.segments.now in
    let passed = c.pass-leaves.ensures.passed in
    let more = after segments c.pass-leaves.new.self in
    let n = c.pass-leaves.result.count in
    let letter = letter_of c.pass-leaves.result.unit in
    let enters = letter_of c.args.entering.unit in
    let whole = ap length passed ∙ length-alike n letter more in
    record {
      point = c.pass-leaves.ensures.point;
      shorter = omega (arith, whole, c.loop-left.invariant.shorter, c.pass-leaves.ensures.within);
      small = omega arith;
      room = omega (arith, c.pass.ensures.room, c.loop-left.invariant.room, c.pass-leaves.ensures.within);
      slides = λ rest.
          let so_far = c.loop-left.invariant.slides rest in
          let some = passings_some n c.loop-left.left letter enters (after segments c.loop-left.leaving) more rest passed c.pass-leaves.ensures.within in (
            so_far.0 ++ alike n letter enters,
            g.met.S.Slider.onward _ _ _ so_far.0 (alike n letter enters) so_far.1 c.pass.ensures.slides,
            so_far.2 ∙ ap (λ ps. so_far.0 ++ ps) some ∙ sym (append_assoc so_far.0 (alike n letter enters) (passings more (replicate (c.loop-left.left - n) enters ++ rest))),
          );
    }

pub returns-clause-slides : goal.returns-clause-slides
returns-clause-slides g c rest =
    let none : c.loop-left.left ≡ 0 = omega arith in
    let so_far = c.loop-left.invariant.slides rest in
    (so_far.0, so_far.1, rw none at so_far.2)
