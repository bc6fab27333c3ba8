use Rattle.std.proofs.Common.{◌≡◌, ◌∙◌, ◌+◌, ◌-◌, ◌++◌, replicate, length, ap, arith}
use Rattle.mh_report.specs.{declared.walk.Walk.Walk, Segments.letter_of, Walk.mutator_units, Points.after}
use Rattle.mh_report.proofs.WalkLemmas.{length-alike, units_within, alike-parts, kept_slides}
use Rattle.mh_report.proofs.walk.Walk.over.Goals as goal

pub loop-left-preserved : goal.loop-left-preserved
loop-left-preserved c =
    let segments = c.args.segments.now in
    let passed = c.pass-leaves.ensures.passed in
    let more = after segments c.pass-leaves.new.self in
    let n = c.pass-leaves.result.count in
    let letter = letter_of c.pass-leaves.result.unit in
    let enters = letter_of c.args.entering.unit in
    let count_is : c.saturating_sub.result ≡ c.loop-left.walk.count + mutator_units enters n - mutator_units letter n = omega (arith, c.saturating_sub.ensures, c.mutator_units.ensures, c.mutator_units-in-loop-left.ensures) in
    let least_is = c.min.ensures in
    let whole = ap length passed ∙ length-alike n letter more in
    record {
      point = c.pass-leaves.ensures.point;
      slid = λ letters rest first.
          let kept = c.loop-left.invariant.slid letters rest first in
          let parts = alike-parts n c.loop-left.left enters rest c.pass-leaves.ensures.within in
          rw (least_is, count_is) (kept_slides c.args.self.window c.loop-left.walk.count c.loop-left.walk.least n letter enters letters more (replicate (c.loop-left.left - n) enters ++ rest) (rw (passed, parts) at kept));
      shorter = omega (arith, whole, c.loop-left.invariant.shorter, c.pass-leaves.ensures.within);
      small = omega arith;
      count = omega (arith, count_is, units_within n enters, c.loop-left.invariant.count, c.pass-leaves.ensures.within);
      same = ap (λ (walk : Walk). record walk { leaving = c.pass-leaves.new.self; count = c.saturating_sub.result; least = c.min.result }) c.loop-left.invariant.same;
    }

pub returns-clause-slid : goal.returns-clause-slid
returns-clause-slid c letters rest first =
    let none : c.loop-left.left ≡ 0 = omega arith in
    let kept = c.loop-left.invariant.slid letters rest first in
    rw none at kept
