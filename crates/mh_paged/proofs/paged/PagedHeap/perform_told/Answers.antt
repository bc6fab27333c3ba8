use Rattle.mh_model.specs.Deeds.{new_deeds, command_deeds}
use Rattle.mh_deeds.proofs.LogLemmas.{adds-then}
use Rattle.mh_paged.proofs.KeptLemmas.{keeps-each}
use Rattle.mh_paged.proofs.paged.PagedHeap.perform_told.Goals as goal

pub returns-clause-told : goal.returns-clause-told
unfolding command_deeds
returns-clause-told c =
    let shaded = rw c.grey_count-grey.ensures at c.tell_shaded.ensures in
    rw c.answer_told-reply.ensures.step
    (adds-then c.args.deeds.now c.answer_told-reply.new.deeds c.tell_shaded.new.deeds (new_deeds c.args.self.now.kept c.args.command.now c.answer_told-reply.result) _ c.answer_told-reply.ensures.told shaded)

pub returns-clause-keeps : goal.returns-clause-keeps
returns-clause-keeps c = keeps-each c.commands_keep_the_snapshot.ensures c.args.self.now.kept _ c.args.who c.args.command.now _ c.answer_told-reply.ensures.step
