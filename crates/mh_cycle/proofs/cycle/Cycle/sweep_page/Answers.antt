use Rattle.std.proofs.Common.{◌<◌, ◌≤◌, ◌/◌, arith, length}
use Rattle.mh_cycle.proofs.SweepLemmas.{sweep-goes_past, sweep-goes_on}
use Rattle.mh_cycle.proofs.cycle.Cycle.sweep_page.Goals as goal

pub returns-then-page-len-clause-run : goal.returns-then-page-len-clause-run
returns-then-page-len-clause-run c =
    let phase = rw (← c.self.view_is) at c.requires.phase in
    let past : length c.sweep_page-swept.new.blocks ≤ c.sweep_page-swept.result.next / 64 = omega arith in
    rw (← c.self.view_is) (sweep-goes_past _ _ _ _ phase c.sweep_page-swept.ensures.swept c.sweep_page-swept.ensures.few past)

pub returns-else-page-len-clause-run : goal.returns-else-page-len-clause-run
returns-else-page-len-clause-run c =
    let phase = rw (← c.self.view_is) at c.requires.phase in
    let inside : c.sweep_page-swept.result.next / 64 < length c.sweep_page-swept.new.blocks = omega arith in
    rw (c.end.view_is, ← c.self.view_is) (sweep-goes_on _ _ _ _ phase c.sweep_page-swept.ensures.swept c.sweep_page-swept.ensures.few inside)
