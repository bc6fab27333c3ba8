use Rattle.std.proofs.Common.{◌+◌, ◌-◌, ◌<◌, subst, sym, arith}
use Rattle.mh_report.specs.{declared.segment.Unit.Unit as Side, Segments.letter_of, Slides.alike}
use Rattle.mh_windows.specs.Lengths.{CountState, CountsOn}
use Rattle.mh_windows.proofs.LengthLemmas.{counts_collector, counts_mutator}
use Rattle.mh_windows.proofs.pauses.CountingSlider.pass.Goals as goal

pub returns-in-Collector-clause-slides : goal.returns-in-Collector-clause-slides
returns-in-Collector-clause-slides c =
    let n = c.args.count in
    let enters = letter_of c.args._enters in
    let inside = c.self.inside in
    let s : CountState = record { bound = inside.bound; here = inside.here; tally = inside.tally; left = inside.left } in
    let new : CountState = record { bound = inside.bound; here = inside.here + n; tally = inside.tally; left = inside.left - n } in
    let goes = subst (λ (leaves : Side). CountsOn s (alike n (letter_of leaves) enters) new) (sym c.in-Collector.is) (counts_collector s n enters) in
    subst (λ (t : CountState). CountsOn t (alike n (letter_of c.args.leaves) enters) new) c.self.view_is goes

pub returns-in-Mutator-2-clause-slides : goal.returns-in-Mutator-2-clause-slides
returns-in-Mutator-2-clause-slides c =
    let n = c.args.count in
    let enters = letter_of c.args._enters in
    let inside = c.self.inside in
    let s : CountState = record { bound = inside.bound; here = inside.here; tally = inside.tally; left = inside.left } in
    let tally = c.with_pause-self-inside.result in
    let new : CountState = record { bound = inside.bound; here = 0; tally = tally; left = inside.left - n } in
    let some : 0 < n = omega (arith, c.if-count-eq0.false) in
    let counted = counts_mutator s n enters tally some c.with_pause-self-inside.ensures.pauses c.with_pause-self-inside.ensures.within in
    grind arith
