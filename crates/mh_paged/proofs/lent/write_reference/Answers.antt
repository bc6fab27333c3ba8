use Rattle.std.proofs.Common.{◌<◌, length, sym, ap, ◌∙◌, subst}
use Rattle.mh_model.specs.{Pages.Leads, Table.{Position, references_at}}
use Rattle.mh_paged.proofs.FieldLemmas.{leads-stays, stays-before_field}
use Rattle.mh_paged.proofs.lent.write_reference.Goals as goal

pub store_ref-requires-clause-there : goal.store_ref-requires-clause-there
store_ref-requires-clause-there c =
    let at : Position = record { place = c.at.inside.place; index = c.at.inside.index } in
    let there = subst (λ (p : Position). p.index < length (references_at c.args.cycle.now.collector.table p.place)) (sym c.at.view_is) c.requires.there in
    let same = ap (λ x. x.collector.table) (c.cycle.view_is ∙ c.before_field.ensures.shaded) in
    subst (λ t. at.index < length (references_at t at.place)) (sym same)
    (subst (λ rs. at.index < length rs) (sym ((stays-before_field c.args.cycle.now.collector at).references at.place)) there)

pub store_ref-requires-clause-leads : goal.store_ref-requires-clause-leads
store_ref-requires-clause-leads c =
    let at : Position = record { place = c.at.inside.place; index = c.at.inside.index } in
    let same = ap (λ x. x.collector.table) (c.cycle.view_is ∙ c.before_field.ensures.shaded) in
    subst (λ t. Leads t c.args.reference) (sym same)
    (leads-stays c.args.cycle.now.collector.table _ c.args.reference (stays-before_field c.args.cycle.now.collector at) c.requires.leads)
