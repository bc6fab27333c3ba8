use Rattle.std.proofs.Common.{◌≡◌, ◌+◌, ◌-◌, ap, arith}
use Rattle.mh_run_laws.specs.Windows.{before}
use Rattle.mh_run_laws.proofs.windows.StretchLemmas.{units_between}
use Rattle.mh_window_curve.proofs.promises.units_in.Goals as goal

pub overflow_sub-result : goal.overflow_sub-result
overflow_sub-result c =
    let letters = c.args.trace.now.trace.letters in
    let start = c.args.stretch.start in
    let end = c.args.stretch.end in
    let at_end : start + (end - start) ≡ end = omega (arith, c.requires.ordered) in
    omega (arith, units_between letters start (end - start), ap (before letters) at_end, c.units_in_first.ensures, c.units_in_first-2.ensures)

pub returns : goal.returns
returns c =
    let letters = c.args.trace.now.trace.letters in
    let start = c.args.stretch.start in
    let end = c.args.stretch.end in
    let at_end : start + (end - start) ≡ end = omega (arith, c.requires.ordered) in
    omega (arith, units_between letters start (end - start), ap (before letters) at_end, c.units_in_first.ensures, c.units_in_first-2.ensures)
