use Rattle.std.proofs.Common.{arith, ◌∙◌, sym}
use Rattle.mh_grey.proofs.ShadeLemmas.{marked-apart}
use Rattle.mh_cycle.proofs.{FrameLemmas.framed-shaded, ReadyLemmas.{are-marked, reference-leads}}
use Rattle.mh_cycle.proofs.SnapshotLemmas.{field-kept}
use Rattle.mh_cycle.proofs.cycle.Cycle.before_field.Goals as goal

pub shade-requires-clause-leads : goal.shade-requires-clause-leads
shade-requires-clause-leads c = grind (arith, reference-leads)

pub shade-requires-clause-apart : goal.shade-requires-clause-apart
shade-requires-clause-apart c = grind (arith, marked-apart, are-marked)

pub invariant_of-self : goal.invariant_of-self
invariant_of-self c = rw (c.shade.ensures.table, c.shade.ensures.grey) (framed-shaded _ _ _ _ _ _ _ c.self.invariant)

pub returns-then-is_marking-clause-kept : goal.returns-then-is_marking-clause-kept
returns-then-is_marking-clause-kept c =
    let marks = rw (← c.self.view_is) at c.is_marking.ensures in
    let steady = rw (← c.self.view_is) at c.requires.steady in
    let there = rw (← c.self.view_is) at c.requires.there in
    let original = rw (← c.self.view_is) at c.requires.original in
    rw (← c.self.view_is, c.shade.ensures.table, c.shade.ensures.grey, c.reference-reference.ensures)
    (field-kept c.references_lead_on.ensures c.barriers_keep_the_snapshot.ensures _ c.args.place c.args.index there original steady (sym marks ∙ c.if-is_marking.true))
