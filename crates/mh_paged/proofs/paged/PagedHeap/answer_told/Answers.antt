use Rattle.std.proofs.Common.{rules}
use Rattle.mh_model.specs.{Deeds.{Adds, new_deeds}, declared.command.Command.Command}
use Rattle.mh_heap.specs.Outcome.{done_or}
use Rattle.mh_paged.proofs.MadeLemmas.{new-tells}
use Rattle.mh_paged.proofs.paged.PagedHeap.answer_told.Goals as goal

pub returns-in-New-clause-told : goal.returns-in-New-clause-told
returns-in-New-clause-told c =
    let told : Adds c.args.deeds.now (new_deeds c.args.self.now.kept (Command.New c.in-New.slot c.in-New.references c.in-New.numbers) (done_or c.make-outcome.result)) c.make-outcome.new.log = new-tells c.args.self.now.kept c.in-New.slot c.in-New.references c.in-New.numbers c.args.deeds.now c.make-outcome.new.log c.make-outcome.result c.make-outcome.ensures.told c.make-outcome.ensures.quiet in
    search rules
