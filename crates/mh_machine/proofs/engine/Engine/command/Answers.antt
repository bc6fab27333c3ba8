use Rattle.std.proofs.Common.{◌≡◌, sym, ap, ◌∙◌}
use Rattle.mh_model.specs.{Mutator.{HeapState, mutator_step}, declared.command.Command.Command}
use Rattle.mh_model.specs.declared.reply.Reply.{Reply}
use Rattle.mh_laws.proofs.commands.{CommandAnswers.new-done, LeftUnchanged.made_group-fields}
use Rattle.mh_machine.proofs.engine.Engine.command.Goals as goal

pub units_of-units-requires : goal.units_of-units-requires
units_of-units-requires g c = λ slot references numbers new is.
    let heap : HeapState = c.args.self.now.heap.kept in
    let done : (mutator_step heap c.args.who (Command.New slot references numbers)).reply ≡ Reply.Done = ap (λ command. (mutator_step heap c.args.who command).reply) (sym new) ∙ ap (λ a. a.reply) c.perform-reply.ensures.step ∙ is in
    let born = new-done heap c.args.who slot references numbers done in
    made_group-fields heap.collector.table heap.next_birth heap.collector.cycle references numbers born.made born.group
