use Rattle.std.proofs.Common.{subst, sym, refl, arith}
use Rattle.mh_report.proofs.SegmentLemmas.{counts_whole}
use Rattle.mh_windows.specs.Pauses.{IsLongest, PauseState}
use Rattle.mh_windows.proofs.PauseLemmas.{goes_first, longest_found}
use Rattle.mh_windows.proofs.pause.longest_pause.Goals as goal

pub overflow_add-going : goal.overflow_add-going
overflow_add-going c = grind (arith, counts_whole)

pub invariant_of-going : goal.invariant_of-going
invariant_of-going c = grind (arith, counts_whole)

pub slide-requires-clause-room : goal.slide-requires-clause-room
slide-requires-clause-room c = omega (arith, counts_whole c.args.trace.now.trace.letters, c.mutator_count.ensures, c.collector_count.ensures)

pub returns : goal.returns
returns c =
    let letters = c.args.trace.now.trace.letters in
    subst (λ (s : PauseState). IsLongest letters s.longest) (sym c.going.view_is) (longest_found letters _ c.slide.new.slider refl (goes_first letters _) c.slide.ensures)
