use Rattle.std.proofs.Common.{arith, ◌∙◌, sym}
use Rattle.mh_grey.proofs.ShadeLemmas.{marked-apart}
use Rattle.mh_cycle.proofs.{FrameLemmas.framed-shaded, ReadyLemmas.are-marked, SnapshotLemmas.{root-kept, kept-steady}}
use Rattle.mh_cycle.proofs.cycle.Cycle.before_root.Goals as goal

pub shade-requires-clause-apart : goal.shade-requires-clause-apart
shade-requires-clause-apart c = grind (arith, marked-apart, are-marked)

pub invariant_of-self : goal.invariant_of-self
invariant_of-self c = rw (c.shade.ensures.table, c.shade.ensures.grey) (framed-shaded _ _ _ _ _ _ _ c.self.invariant)

pub returns-then-is_scanning-clause-kept : goal.returns-then-is_scanning-clause-kept
returns-then-is_scanning-clause-kept c =
    let roots = rw (← c.self.view_is) at c.is_scanning.ensures in
    rw (← c.self.view_is, c.shade.ensures.table, c.shade.ensures.grey, c.get-reference.ensures.value) (root-kept c.shading_keeps_the_snapshot.ensures _ c.args.slot (sym roots ∙ c.if-is_scanning.true))

pub returns-then-is_scanning-clause-steady : goal.returns-then-is_scanning-clause-steady
returns-then-is_scanning-clause-steady c =
    let roots = rw (← c.self.view_is) at c.is_scanning.ensures in
    let steady = rw (← c.self.view_is) at c.requires.steady in
    rw (c.shade.ensures.table, c.shade.ensures.grey, c.get-reference.ensures.value) (kept-steady _ _ (root-kept c.shading_keeps_the_snapshot.ensures _ c.args.slot (sym roots ∙ c.if-is_scanning.true)) steady)
