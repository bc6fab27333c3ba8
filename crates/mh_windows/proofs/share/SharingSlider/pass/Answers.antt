use Rattle.std.proofs.Common.{◌≡◌, ◌∙◌, ◌-◌, ap, not, None, subst, arith}
use Rattle.mh_report.specs.Segments.{letter_of}
use Rattle.mh_report.proofs.WalkLemmas.{units_within}
use Rattle.mh_windows.specs.{declared.share.Place.Place, Shares.ShareState}
use Rattle.mh_windows.proofs.ShareLemmas.{IsWorse, is_none, place_after, same_place, slides_found, slides_looked}
use Rattle.mh_windows.proofs.share.SharingSlider.pass.Goals as goal

pub invariant_of-self : goal.invariant_of-self
invariant_of-self c = grind (arith, units_within)

pub invariant_of-self-else-is_none : goal.invariant_of-self-else-is_none
invariant_of-self-else-is_none c = grind (arith, units_within)

pub returns-then-is_none-clause-slides : goal.returns-then-is_none-clause-slides
returns-then-is_none-clause-slides c =
    let n = c.args.count in
    let leaves = letter_of c.args.leaves in
    let enters = letter_of c.args.enters in
    let inside = c.self.inside in
    let s : ShareState = record { part = inside.part; start = inside.start; end = inside.end; peak = inside.peak; broken = inside.broken; left = inside.left } in
    let peak = c.worse-self-inside.result in
    let start_is : c.after-self-inside.result ≡ place_after s.start n leaves = same_place _ _ c.after-self-inside.ensures.place c.after-self-inside.ensures.units in
    let end_is : c.after-self-inside-2.result ≡ place_after s.end n enters = same_place _ _ c.after-self-inside-2.ensures.place c.after-self-inside-2.ensures.units in
    let worse : IsWorse s (place_after s.start n leaves) peak =
    subst (λ (start : Place). IsWorse s start peak) start_is (record { one = c.worse-self-inside.ensures.one; of_peak = c.worse-self-inside.ensures.of_peak; of_start = c.worse-self-inside.ensures.of_start }) in
    let was : s.broken ≡ None = is_none s.broken (c.is_none.ensures ∙ ap not c.if-is_none.true) in
    let looked = slides_looked s c.self.invariant.0 n leaves enters peak worse c.shortfall-self-inside.result was (rw end_is at c.shortfall-self-inside.ensures) in
    grind (arith, place_after)

pub returns-else-is_none-clause-slides : goal.returns-else-is_none-clause-slides
returns-else-is_none-clause-slides c =
    let n = c.args.count in
    let leaves = letter_of c.args.leaves in
    let enters = letter_of c.args.enters in
    let inside = c.self.inside in
    let s : ShareState = record { part = inside.part; start = inside.start; end = inside.end; peak = inside.peak; broken = inside.broken; left = inside.left } in
    let peak = c.worse-self-inside.result in
    let start_is : c.after-self-inside.result ≡ place_after s.start n leaves = same_place _ _ c.after-self-inside.ensures.place c.after-self-inside.ensures.units in
    let end_is : c.after-self-inside-2.result ≡ place_after s.end n enters = same_place _ _ c.after-self-inside-2.ensures.place c.after-self-inside-2.ensures.units in
    let worse : IsWorse s (place_after s.start n leaves) peak =
    subst (λ (start : Place). IsWorse s start peak) start_is (record { one = c.worse-self-inside.ensures.one; of_peak = c.worse-self-inside.ensures.of_peak; of_start = c.worse-self-inside.ensures.of_start }) in
    let found = slides_found s c.self.invariant.0 n leaves enters peak worse (c.is_none.ensures ∙ ap not c.if-is_none.false) in
    grind (arith, place_after)
