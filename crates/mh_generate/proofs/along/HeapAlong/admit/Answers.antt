use Rattle.std.proofs.Common.{◌∙◌, sym}
use Rattle.mh_heap.proofs.BirthLemmas.{births_performed}
use Rattle.mh_model.specs.World.{never_full}
use Rattle.mh_generate.proofs.TakenLemmas.{nothing_taken, nothing_unchanged, performed_refused, performed_stays}
use Rattle.mh_generate.proofs.along.HeapAlong.admit.Goals as goal

pub returns-then-ends_first-clause-taken : goal.returns-then-ends_first-clause-taken
returns-then-ends_first-clause-taken c = nothing_taken _ c.args.self.now.stays

pub returns-then-ends_first-clause-step : goal.returns-then-ends_first-clause-step
returns-then-ends_first-clause-step c = sym (nothing_unchanged _ c.args.self.now.stays)

pub invariant_of-self : goal.invariant_of-self
invariant_of-self c = record {
  stays = performed_stays _ _ c.args.who c.args.command c.perform.result (sym c.ends_first.ensures ∙ c.if-ends_first.false) c.args.self.now.stays c.perform.ensures.step c.perform.ensures.err;
}

pub returns-then-is_refused-clause-taken : goal.returns-then-is_refused-clause-taken
returns-then-is_refused-clause-taken c = nothing_taken _ c.args.self.now.stays

pub returns-then-is_refused-clause-step : goal.returns-then-is_refused-clause-step
returns-then-is_refused-clause-step c =
    performed_refused _ _ c.args.who c.args.command _ c.in_ok-reply.ensures.step (sym c.is_refused.ensures ∙ c.if-is_refused.true) ∙ sym (nothing_unchanged _ c.args.self.now.stays)

pub returns-then-is_refused-clause-few : goal.returns-then-is_refused-clause-few
returns-then-is_refused-clause-few c = births_performed never_full _ _ c.args.who c.args.command _ c.in_ok-reply.ensures.step

pub returns-clause-few : goal.returns-clause-few
returns-clause-few c = births_performed never_full _ _ c.args.who c.args.command _ c.in_ok-reply.ensures.step
