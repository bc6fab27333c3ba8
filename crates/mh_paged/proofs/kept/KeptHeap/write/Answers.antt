use Rattle.std.proofs.Common.{◌+◌, ap, rules, arith}
use Rattle.mh_model.specs.{Mutator.{heap_effect, mutator_step}, declared.command.Command.Command}
use Rattle.mh_model.specs.declared.reply.Reply.{Reply}
use Rattle.mh_paged.specs.Auxiliary.{heap_of}
use Rattle.mh_paged.proofs.KeptLemmas.{found-field, keeps-each, kept-after}
use Rattle.mh_paged.proofs.kept.KeptHeap.write.Goals as goal

pub write_number-requires-clause-findable : goal.write_number-requires-clause-findable
write_number-requires-clause-findable c =
    let found = rw (← c.self.view_is) at c.in_ok-found.ensures in
    (found-field c.laws_of_commands.ensures.steady c.fields_are_found.ensures _ _ _ c.self.invariant _ _ found.2 (c.in_ok-found.found.shape.references + c.in_ok-index.index) (omega (arith, c.in_ok-index.ensures.within))).findable

pub write_number-requires-clause-after : goal.write_number-requires-clause-after
write_number-requires-clause-after c =
    let found = rw (← c.self.view_is) at c.in_ok-found.ensures in
    let has = (found-field c.laws_of_commands.ensures.steady c.fields_are_found.ensures _ _ _ c.self.invariant _ _ found.2 (c.in_ok-found.found.shape.references + c.in_ok-index.index) (omega (arith, c.in_ok-index.ensures.within))).has in
    has.after (omega arith)

pub write_number-requires-clause-within : goal.write_number-requires-clause-within
write_number-requires-clause-within c =
    let found = rw (← c.self.view_is) at c.in_ok-found.ensures in
    let has = (found-field c.laws_of_commands.ensures.steady c.fields_are_found.ensures _ _ _ c.self.invariant _ _ found.2 (c.in_ok-found.found.shape.references + c.in_ok-index.index) (omega (arith, c.in_ok-index.ensures.within))).has in
    has.number (omega arith)

pub invariant_of-self : goal.invariant_of-self
unfolding mutator_step heap_effect
invariant_of-self c = kept-after c.laws_of_commands.ensures.kept c.laws_of_commands.ensures.bounds _ _ _ _ _ _ c.self.invariant (ap (λ s. s.config) c.write_number.ensures) c.args.who (Command.Write c.args.slot c.args.index c.args.number) Reply.Done (search rules)

pub returns-clause-keeps : goal.returns-clause-keeps
unfolding mutator_step heap_effect
returns-clause-keeps c = keeps-each c.laws_of_commands.ensures.snapshot c.args.self.now (heap_of c.write_number.new.cycle c.self.inside.next_birth c.self.inside.ended) c.args.who (Command.Write c.args.slot c.args.index c.args.number) Reply.Done (search rules)
