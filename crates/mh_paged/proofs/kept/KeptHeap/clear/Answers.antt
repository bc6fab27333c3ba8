use Rattle.std.proofs.Common.{ap, rules}
use Rattle.mh_model.specs.{Mutator.{heap_effect, mutator_step}, declared.command.Command.Command}
use Rattle.mh_model.specs.declared.reply.Reply.{Reply}
use Rattle.mh_paged.specs.Auxiliary.{heap_of}
use Rattle.mh_paged.proofs.KeptLemmas.{keeps-each, kept-after}
use Rattle.mh_paged.proofs.kept.KeptHeap.clear.Goals as goal

pub invariant_of-self : goal.invariant_of-self
unfolding mutator_step heap_effect
invariant_of-self c = kept-after c.laws_of_commands.ensures.kept c.laws_of_commands.ensures.bounds _ _ _ _ _ _ c.self.invariant (ap (λ s. s.config) c.write_root.ensures) c.args.who (Command.Clear c.args.slot) Reply.Done (search rules)

pub returns-clause-keeps : goal.returns-clause-keeps
unfolding mutator_step heap_effect
returns-clause-keeps c = keeps-each c.laws_of_commands.ensures.snapshot c.args.self.now (heap_of c.write_root.new.cycle c.self.inside.next_birth c.self.inside.ended) c.args.who (Command.Clear c.args.slot) Reply.Done (search rules)
