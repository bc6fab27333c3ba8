use Rattle.std.proofs.Common.{◌≡◌, ◌+◌, ◌-◌, ◌≤◌, subst, sym, refl, length, take, arith}
use Rattle.std.specs.Prelude.{IfNone, IfSome}
use Rattle.mh_model.specs.{declared.birth.TheConstants.LIFE, Trace.mutator_count}
use Rattle.mh_report.proofs.SegmentLemmas.{counts_whole}
use Rattle.mh_run_laws.specs.Windows.{KeepsShare}
use Rattle.mh_run_laws.proofs.windows.StretchLemmas.{units_few}
use Rattle.mh_windows.specs.Shares.{IsShort, ShareState}
use Rattle.mh_windows.proofs.ShareLemmas.{first_state, no_longer_than, none_found, short_first, some_found}
use Rattle.mh_windows.proofs.share.short_stretch.Goals as goal

pub overflow_add-letters : goal.overflow_add-letters
overflow_add-letters c = grind (arith, counts_whole)

pub returns-then-from-letters-clause-none : goal.returns-then-from-letters-clause-none
returns-then-from-letters-clause-none c = grind (arith, no_longer_than, counts_whole)

pub units_in_first-requires : goal.units_in_first-requires
units_in_first-requires c = omega (arith, counts_whole c.args.trace.now.trace.letters, c.mutator_count.ensures, c.collector_count.ensures, c.if-from-letters.false)

pub returns-in-Some-clause-some : goal.returns-in-Some-clause-some
returns-in-Some-clause-some c = grind (arith, counts_whole, short_first)

pub invariant_of-sharing : goal.invariant_of-sharing
invariant_of-sharing c =
    let life : LIFE ≡ 4611686018427387904 = refl in
    let whole = counts_whole c.args.trace.now.trace.letters in
    let few : mutator_count (take c.args.from c.args.trace.now.trace.letters) ≤ c.args.from = units_few c.args.trace.now.trace.letters 0 c.args.from in (
      c.requires.part,
      omega arith,
      omega (arith, life, whole, c.mutator_count.ensures, c.collector_count.ensures, c.requires.short, c.if-from-letters.false),
      omega arith,
      omega (arith, few, c.units_in_first.ensures),
    )

pub slide-requires-clause-window : goal.slide-requires-clause-window
slide-requires-clause-window c = omega (arith, counts_whole c.args.trace.now.trace.letters, c.mutator_count.ensures, c.collector_count.ensures, c.if-from-letters.false)

pub slide-requires-clause-room : goal.slide-requires-clause-room
slide-requires-clause-room c = omega (arith, counts_whole c.args.trace.now.trace.letters, c.mutator_count.ensures, c.collector_count.ensures)

pub returns-clause-none : goal.returns-clause-none
returns-clause-none c =
    let letters = c.args.trace.now.trace.letters in
    let room : c.args.from ≤ length letters = omega (arith, counts_whole letters, c.mutator_count.ensures, c.collector_count.ensures, c.if-from-letters.false) in
    let first = first_state letters c.args.part c.args.from c.units_in_first.result (c.mutator_count.result + c.collector_count.result - c.args.from) room c.units_in_first.ensures c.in_default.ensures in
    subst (λ (s : ShareState). IfNone s.broken (KeepsShare c.args.part 100 c.args.from letters)) (sym c.sharing.view_is) (none_found letters c.args.part c.args.from _ _ room refl refl refl first c.slide.ensures)

pub returns-clause-some : goal.returns-clause-some
returns-clause-some c =
    let letters = c.args.trace.now.trace.letters in
    let room : c.args.from ≤ length letters = omega (arith, counts_whole letters, c.mutator_count.ensures, c.collector_count.ensures, c.if-from-letters.false) in
    let first = first_state letters c.args.part c.args.from c.units_in_first.result (c.mutator_count.result + c.collector_count.result - c.args.from) room c.units_in_first.ensures c.in_default.ensures in
    subst (λ (s : ShareState). IfSome s.broken (IsShort c.args.part c.args.from letters)) (sym c.sharing.view_is) (some_found letters c.args.part c.args.from _ _ room refl refl refl first c.slide.ensures)
