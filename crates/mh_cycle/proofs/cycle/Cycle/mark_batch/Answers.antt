use Rattle.std.proofs.Common.{◌∙◌, refl, ap}
use Rattle.mh_model.specs.Collector.{Marking}
use Rattle.mh_grey.specs.Shading.{marking}
use Rattle.mh_cycle.proofs.{BatchLemmas.{none-marked, queue_of, framed-as, run-none, run-some}, FrameLemmas.framed-next}
use Rattle.mh_cycle.proofs.ReadyLemmas.{walkable}
use Rattle.mh_cycle.proofs.cycle.Cycle.mark_batch.Goals as goal

pub mark_batch-cost-requires-clause-walkable : goal.mark_batch-cost-requires-clause-walkable
mark_batch-cost-requires-clause-walkable g c =
    let steady = rw (← c.self.view_is) at c.requires.steady in
    walkable c.references_lead_on.ensures _ steady

pub invariant_of-self : goal.invariant_of-self
invariant_of-self g c =
    let inside = c.self.inside in
    let done = c.mark_batch-cost.ensures in
    let none = none-marked c.args.left c.mark_batch-cost.result (marking inside.blocks inside.grey.places inside.number) done.cost c.if-cost-eq0.true in
    framed-as _ _ _ _ _ _ _ c.self.invariant (done.table ∙ ap (λ (m : Marking). m.table) none) (done.grey ∙ ap (queue_of inside.grey.pages) none)

pub invariant_of-self-2 : goal.invariant_of-self-2
invariant_of-self-2 g c = framed-next _ _ _ _ _ _ _ _ c.self.invariant c.mark_batch-cost.ensures.long (rw c.mark_batch-cost.ensures.grey refl) c.after_mark-self-inside.ensures

pub returns-then-cost-eq0-clause-run : goal.returns-then-cost-eq0-clause-run
returns-then-cost-eq0-clause-run g c =
    let phase = rw (← c.self.view_is) at c.requires.phase in
    let done = c.mark_batch-cost.ensures in
    rw (← c.self.view_is, done.table, done.grey) (run-none c.any_cut_into_batches_is_the_same.ensures c.args.left c.mark_batch-cost.result _ phase (c.self.invariant.mark phase) done.cost c.if-cost-eq0.true)

pub returns-clause-run : goal.returns-clause-run
returns-clause-run g c =
    let phase = rw (← c.self.view_is) at c.requires.phase in
    let done = c.mark_batch-cost.ensures in
    let next = rw done.grey at c.after_mark-self-inside.ensures in
    rw (← c.self.view_is, done.table, done.grey) (run-some c.any_cut_into_batches_is_the_same.ensures c.args.left _ _ _ phase c.has_each_once.ensures done.cost done.fits c.if-cost-eq0.false next)
