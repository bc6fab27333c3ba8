use Rattle.std.proofs.Common.{◌≡◌, ◌∙◌, ◌+◌, ◌-◌, ◌≤◌, ap, subst, sym, refl, length, take, arith}
use Rattle.mh_model.specs.{declared.birth.TheConstants.LIFE, Trace.mutator_count}
use Rattle.mh_report.specs.Slides.{passings_of}
use Rattle.mh_report.proofs.SegmentLemmas.{counts_whole}
use Rattle.mh_run_laws.proofs.windows.StretchLemmas.{units_few}
use Rattle.mh_windows.specs.{Lowest.{IsLowest, LowestState, slid_over}, Auxiliary.first_lowest}
use Rattle.mh_windows.proofs.LowestLemmas.{lowest_found, lowest_is_least, same_state}
use Rattle.mh_windows.proofs.lowest.lowest_of.Goals as goal

pub overflow_add-letters : goal.overflow_add-letters
overflow_add-letters c = grind (arith, counts_whole)

pub returns-then-window-letters-clause-none : goal.returns-then-window-letters-clause-none
returns-then-window-letters-clause-none c = omega (arith, counts_whole c.args.trace.now.trace.letters, c.mutator_count.ensures, c.collector_count.ensures, c.if-window-letters.true)

pub units_in_first-count-requires : goal.units_in_first-count-requires
units_in_first-count-requires c = omega (arith, counts_whole c.args.trace.now.trace.letters, c.mutator_count.ensures, c.collector_count.ensures, c.if-window-letters.false)

pub invariant_of-sliding : goal.invariant_of-sliding
invariant_of-sliding c =
    let life : LIFE ≡ 4611686018427387904 = refl in
    let whole = counts_whole c.args.trace.now.trace.letters in
    let few : mutator_count (take c.args.window c.args.trace.now.trace.letters) ≤ c.args.window = units_few c.args.trace.now.trace.letters 0 c.args.window in (
      omega (arith, life, whole, c.mutator_count.ensures, c.collector_count.ensures, c.requires),
      omega (arith, life, whole, c.mutator_count.ensures, c.collector_count.ensures, c.requires, few, c.units_in_first-count.ensures, c.if-window-letters.false),
      omega arith,
    )

pub slide-requires-clause-window : goal.slide-requires-clause-window
slide-requires-clause-window c = omega (arith, counts_whole c.args.trace.now.trace.letters, c.mutator_count.ensures, c.collector_count.ensures, c.if-window-letters.false)

pub slide-requires-clause-room : goal.slide-requires-clause-room
slide-requires-clause-room c = omega (arith, counts_whole c.args.trace.now.trace.letters, c.mutator_count.ensures, c.collector_count.ensures)

pub returns-clause-place : goal.returns-clause-place
returns-clause-place c =
    let letters = c.args.trace.now.trace.letters in
    let room : c.args.window ≤ length letters = omega (arith, counts_whole letters, c.mutator_count.ensures, c.collector_count.ensures, c.if-window-letters.false) in
    let left : c.mutator_count.result + c.collector_count.result ≡ length letters = omega (arith, counts_whole letters, c.mutator_count.ensures, c.collector_count.ensures) in
    let first = same_state _ (first_lowest c.args.window letters) refl c.units_in_first-count.ensures c.units_in_first-count.ensures refl (ap (λ n. n - c.args.window) left) in
    let found = lowest_found c.args.window letters c.slide.new.slider room (c.slide.ensures ∙ ap (λ (s : LowestState). slid_over s (passings_of c.args.window letters)) first) in
    subst (λ (s : LowestState). IsLowest letters c.args.window s.least s.at) (sym c.sliding.view_is) found

pub returns-clause-least : goal.returns-clause-least
returns-clause-least c = lowest_is_least c.args.window c.args.trace.now.trace.letters c.sliding.inside.least c.sliding.inside.at (returns-clause-place c)
