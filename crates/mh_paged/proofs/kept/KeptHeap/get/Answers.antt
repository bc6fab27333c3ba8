use Rattle.std.proofs.Common.{ap, rules, arith}
use Rattle.mh_model.specs.{Mutator.{HeapState, heap_effect, mutator_step}, declared.command.Command.Command}
use Rattle.mh_model.specs.declared.reply.Reply.{Reply}
use Rattle.mh_paged.specs.Auxiliary.{heap_of}
use Rattle.mh_paged.proofs.{FieldLemmas.field-leads, KeptLemmas.{found-field, keeps-each, kept-after}}
use Rattle.mh_paged.proofs.kept.KeptHeap.get.Goals as goal

pub loaded-reference-requires-clause-findable : goal.loaded-reference-requires-clause-findable
loaded-reference-requires-clause-findable c =
    let found = rw (← c.self.view_is) at c.in_ok-found.ensures in
    (found-field c.laws_of_commands.ensures.steady c.fields_are_found.ensures _ _ _ c.self.invariant _ _ found.2 c.in_ok-field.field (omega (arith, c.in_ok-field.ensures.within))).findable

pub loaded-reference-requires-clause-within : goal.loaded-reference-requires-clause-within
loaded-reference-requires-clause-within c =
    let found = rw (← c.self.view_is) at c.in_ok-found.ensures in
    let has = (found-field c.laws_of_commands.ensures.steady c.fields_are_found.ensures _ _ _ c.self.invariant _ _ found.2 c.in_ok-field.field (omega (arith, c.in_ok-field.ensures.within))).has in
    has.reference c.in_ok-field.ensures.within

pub loaded-reference-requires-clause-leads : goal.loaded-reference-requires-clause-leads
loaded-reference-requires-clause-leads c =
    let heap : HeapState = heap_of c.self.inside.cycle c.self.inside.next_birth c.self.inside.ended in
    let found = rw (← c.self.view_is) at c.in_ok-found.ensures in
    let steady = c.laws_of_commands.ensures.steady.of_heaps heap c.self.invariant.keeping in
    let has = (found-field c.laws_of_commands.ensures.steady c.fields_are_found.ensures _ _ _ c.self.invariant _ _ found.2 c.in_ok-field.field (omega (arith, c.in_ok-field.ensures.within))).has in
    field-leads c.references_lead_on.ensures heap.collector steady c.in_ok-found.found.place c.in_ok-found.found.shape c.in_ok-field.field has

pub invariant_of-self : goal.invariant_of-self
unfolding mutator_step heap_effect
invariant_of-self c = kept-after c.laws_of_commands.ensures.kept c.laws_of_commands.ensures.bounds _ _ _ _ _ _ c.self.invariant (ap (λ s. s.config) c.write_root.ensures) c.args.who (Command.Get c.args.slot c.args.source c.args.field) Reply.Done (search rules)

pub returns-clause-keeps : goal.returns-clause-keeps
unfolding mutator_step heap_effect
returns-clause-keeps c = keeps-each c.laws_of_commands.ensures.snapshot c.args.self.now (heap_of c.write_root.new.cycle c.self.inside.next_birth c.self.inside.ended) c.args.who (Command.Get c.args.slot c.args.source c.args.field) Reply.Done (search rules)
