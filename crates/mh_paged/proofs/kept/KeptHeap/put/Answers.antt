use Rattle.std.proofs.Common.{ap, rules, arith}
use Rattle.mh_model.specs.{Mutator.{HeapState, heap_effect, mutator_step}, declared.command.Command.Command}
use Rattle.mh_model.specs.declared.reply.Reply.{Reply}
use Rattle.mh_paged.specs.Auxiliary.{heap_of}
use Rattle.mh_table_laws.proofs.marking.BatchMarking.{leads_of}
use Rattle.mh_paged.proofs.{FieldLemmas.field-original, KeptLemmas.{found-field, keeps-each, kept-after}}
use Rattle.mh_paged.proofs.kept.KeptHeap.put.Goals as goal

pub place_of-at-requires : goal.place_of-at-requires
place_of-at-requires c =
    let found = rw (← c.self.view_is) at c.in_ok-found.ensures in
    (found-field c.laws_of_commands.ensures.steady c.fields_are_found.ensures _ _ _ c.self.invariant _ _ found.2 c.in_ok-field.field (omega (arith, c.in_ok-field.ensures.within))).findable

pub write_reference-requires-clause-there : goal.write_reference-requires-clause-there
write_reference-requires-clause-there c =
    let found = rw (← c.self.view_is) at c.in_ok-found.ensures in
    let has = (found-field c.laws_of_commands.ensures.steady c.fields_are_found.ensures _ _ _ c.self.invariant _ _ found.2 c.in_ok-field.field (omega (arith, c.in_ok-field.ensures.within))).has in
    rw c.place_of-at.ensures (has.reference c.in_ok-field.ensures.within)

pub write_reference-requires-clause-original : goal.write_reference-requires-clause-original
write_reference-requires-clause-original c =
    let heap : HeapState = heap_of c.self.inside.cycle c.self.inside.next_birth c.self.inside.ended in
    let found = rw (← c.self.view_is) at c.in_ok-found.ensures in
    let has = (found-field c.laws_of_commands.ensures.steady c.fields_are_found.ensures _ _ _ c.self.invariant _ _ found.2 c.in_ok-field.field (omega (arith, c.in_ok-field.ensures.within))).has in
    rw c.place_of-at.ensures (field-original heap.collector c.in_ok-found.found.place c.in_ok-found.found.shape c.in_ok-field.field has)

pub write_reference-requires-clause-leads : goal.write_reference-requires-clause-leads
write_reference-requires-clause-leads c =
    let heap : HeapState = heap_of c.self.inside.cycle c.self.inside.next_birth c.self.inside.ended in
    rw c.root-reference.ensures (leads_of heap.collector.table _ (c.references_lead_on.ensures.slots heap.collector (c.laws_of_commands.ensures.steady.of_heaps heap c.self.invariant.keeping) c.in_ok-value.value).on)

pub invariant_of-self : goal.invariant_of-self
unfolding mutator_step heap_effect
invariant_of-self c = kept-after c.laws_of_commands.ensures.kept c.laws_of_commands.ensures.bounds _ _ _ _ _ _ c.self.invariant (ap (λ s. s.config) c.write_reference.ensures) c.args.who (Command.Put c.args.slot c.args.field c.args.value) Reply.Done (search rules)

pub returns-clause-keeps : goal.returns-clause-keeps
unfolding mutator_step heap_effect
returns-clause-keeps c = keeps-each c.laws_of_commands.ensures.snapshot c.args.self.now (heap_of c.write_reference.new.cycle c.self.inside.next_birth c.self.inside.ended) c.args.who (Command.Put c.args.slot c.args.field c.args.value) Reply.Done (search rules)
