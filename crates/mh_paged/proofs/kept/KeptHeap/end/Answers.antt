use Rattle.std.proofs.Common.{ap}
use Rattle.mh_paged.proofs.{KeptLemmas.{keeps-each, kept-after}, StepLemmas.end-steps}
use Rattle.mh_model.specs.declared.{command.Command.Command, reply.Reply.Reply}
use Rattle.mh_paged.proofs.kept.KeptHeap.end.Goals as goal

pub invariant_of-self : goal.invariant_of-self
invariant_of-self c =
    kept-after c.laws_of_commands.ensures.kept c.laws_of_commands.ensures.bounds _ _ _ _ _ _ c.self.invariant (ap (λ s. s.config) c.clear_roots.ensures) c.args.who Command.End Reply.Done
    (end-steps _ _ _ c.laws_of_commands.ensures.answered _ _ (rw (← c.self.view_is) at c.in_ok-session.ensures.step) _ c.clear_roots.ensures)

pub returns-clause-step : goal.returns-clause-step
returns-clause-step c = rw (← c.self.view_is) (end-steps _ _ _ c.laws_of_commands.ensures.answered _ _ (rw (← c.self.view_is) at c.in_ok-session.ensures.step) _ c.clear_roots.ensures)

pub returns-clause-keeps : goal.returns-clause-keeps
returns-clause-keeps c =
    rw (← c.self.view_is) (keeps-each c.laws_of_commands.ensures.snapshot _ _ c.args.who Command.End Reply.Done
    (end-steps c.self.inside.cycle c.self.inside.next_birth c.self.inside.ended c.laws_of_commands.ensures.answered _ _ (rw (← c.self.view_is) at c.in_ok-session.ensures.step) _ c.clear_roots.ensures))
