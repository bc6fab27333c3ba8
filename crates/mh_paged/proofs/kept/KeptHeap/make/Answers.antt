use Rattle.std.proofs.Common.{ap, ◌∙◌}
use Rattle.mh_paged.specs.Auxiliary.{heap_of}
use Rattle.mh_paged.proofs.{KeptLemmas.{keeps-each, kept-after, steady-made}, StepLemmas.{born-steps, made-group}}
use Rattle.mh_model.specs.declared.{command.Command.Command, reply.Reply.Reply}
use Rattle.mh_paged.proofs.kept.KeptHeap.make.Goals as goal

pub write_root-requires-clause-steady : goal.write_root-requires-clause-steady
write_root-requires-clause-steady g c =
    steady-made c.objects_made_keep_the_snapshot.ensures (heap_of c.self.inside.cycle c.self.inside.next_birth c.self.inside.ended) c.self.invariant.keeping c.args.references c.args.numbers (record { place = c.in-Ok.place; table = c.make_parts.new.cycle.collector.table }) c.make_parts.new.cycle.collector
    (made-group c.self.inside.cycle c.self.inside.next_birth c.self.inside.ended c.config.result _ _ _ _ c.in_ok-all.ensures c.in-Ok.ensures.made) (ap (λ s. s.collector) c.in-Ok.ensures.table)

pub invariant_of-self-in-Ok : goal.invariant_of-self-in-Ok
invariant_of-self-in-Ok g c =
    kept-after c.laws_of_commands.ensures.kept c.laws_of_commands.ensures.bounds _ _ _ _ _ _ c.self.invariant (ap (λ s. s.config) c.write_root.ensures ∙ ap (λ s. s.config) c.in-Ok.ensures.table) c.args.who (Command.New c.args.slot c.args.references c.args.numbers) Reply.Done
    (born-steps _ _ _ c.laws_of_commands.ensures.answered _ _ (rw (← c.self.view_is) at c.in_ok-session.ensures.step) _ _ _ _ _ _ _ _ _ c.config.ensures c.in_ok-slot.ensures.step c.in_ok-all.ensures c.in-Ok.ensures.made c.in-Ok.ensures.table c.write_root.ensures)

pub returns-in-Ok-clause-step : goal.returns-in-Ok-clause-step
returns-in-Ok-clause-step g c =
    rw (← c.self.view_is) (born-steps _ _ _ c.laws_of_commands.ensures.answered _ _ (rw (← c.self.view_is) at c.in_ok-session.ensures.step) _ _ _ _ _ _ _ _ _ c.config.ensures c.in_ok-slot.ensures.step c.in_ok-all.ensures c.in-Ok.ensures.made c.in-Ok.ensures.table c.write_root.ensures)

pub returns-in-Ok-clause-keeps : goal.returns-in-Ok-clause-keeps
returns-in-Ok-clause-keeps g c =
    rw (← c.self.view_is) (keeps-each c.laws_of_commands.ensures.snapshot _ _ c.args.who (Command.New c.args.slot c.args.references c.args.numbers) Reply.Done
    (born-steps c.self.inside.cycle c.self.inside.next_birth c.self.inside.ended c.laws_of_commands.ensures.answered _ _ (rw (← c.self.view_is) at c.in_ok-session.ensures.step) c.config.result _ _ _ _ _ _ _ _ c.config.ensures c.in_ok-slot.ensures.step c.in_ok-all.ensures c.in-Ok.ensures.made c.in-Ok.ensures.table c.write_root.ensures))
