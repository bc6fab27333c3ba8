use Rattle.std.proofs.Common.{◌≡◌, ◌∙◌, ◌+◌, ◌-◌, ◌++◌, suc, replicate, ap, arith, slice_index_or}
use Rattle.mh_report.specs.{declared.segment.Segment.Segment, declared.segment.Unit.TheVariants.Mutator}
use Rattle.mh_report.specs.Segments.{letter_of}
use Rattle.mh_report.proofs.PointLemmas.{inside_list, inside_segment, is_inside, after_passed, after_last, after_end, inside_next}
use Rattle.mh_report.proofs.point.Point.pass.Goals as goal

abbrev none : Segment
none = record { unit = Mutator; count = 0 }

pub returns-then-most-left-clause-point : goal.returns-then-most-left-clause-point
returns-then-most-left-clause-point c = is_inside c.args.segments.now c.args.self.now.segment _ none (inside_list _ _ _ c.requires.point) (omega arith)

pub returns-then-most-left-clause-passed : goal.returns-then-most-left-clause-passed
returns-then-most-left-clause-passed c = after_passed c.args.segments.now c.args.self.now.segment c.args.self.now.passed c.args.most none (inside_list _ _ _ c.requires.point) (omega arith)

pub returns-then-self-segments-clause-point : goal.returns-then-self-segments-clause-point
returns-then-self-segments-clause-point c =
    let one : c.args.self.now.segment + 1 ≡ suc c.args.self.now.segment = omega arith in
    rw one (inside_next c.args.segments.now c.args.self.now.segment (omega arith))

pub returns-then-self-segments-clause-passed : goal.returns-then-self-segments-clause-passed
returns-then-self-segments-clause-passed c =
    let segments = c.args.segments.now in
    let point = c.args.self.now in
    let segment = slice_index_or segments point.segment none in
    let left = segment.count - point.passed in
    let one : point.segment + 1 ≡ suc point.segment = omega arith in
    let within = inside_segment segments point.segment point.passed none c.requires.point in
    after_passed segments point.segment point.passed left none (inside_list _ _ _ c.requires.point) (omega (arith, within))
    ∙ ap (λ letters. replicate left (letter_of segment.unit) ++ letters)
    (rw one (after_end segments point.segment (point.passed + left) none (omega arith) (omega (arith, within))))

pub returns-else-self-segments-clause-point : goal.returns-else-self-segments-clause-point
returns-else-self-segments-clause-point c = is_inside c.args.segments.now c.args.self.now.segment _ none (inside_list _ _ _ c.requires.point) (omega arith)

pub returns-else-self-segments-clause-passed : goal.returns-else-self-segments-clause-passed
returns-else-self-segments-clause-passed c =
    let segments = c.args.segments.now in
    let point = c.args.self.now in
    let segment = slice_index_or segments point.segment none in
    let left = segment.count - point.passed in
    let within = inside_segment segments point.segment point.passed none c.requires.point in
    let all : point.passed + left ≡ segment.count = omega (arith, within) in
    grind (arith, after_passed, inside_list)

pub returns-else-self-segments-clause-goes : goal.returns-else-self-segments-clause-goes
returns-else-self-segments-clause-goes c some = grind (arith, after_last)
