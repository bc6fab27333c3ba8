use Rattle.std.proofs.Common.{length, ap, arith}
use Rattle.mh_model.specs.Deeds.{units_of}
use Rattle.mh_tell_cycles.specs.declared.underway.BlockCounts.{BlockCounts}
use Rattle.mh_tell_cycles.proofs.TallyLemmas.{blocks-are, command-from}
use Rattle.mh_tell_cycles.proofs.underway.after_command.Goals as goal

pub overflow_sub-result : goal.overflow_sub-result
overflow_sub-result c =
    let command = command-from _ _ _ _ c.note_all.ensures.value c.new-tally.ensures c.deeds.ensures in
    omega (arith, command.opened, c.requires.opened, ap (λ (b : BlockCounts). b.free) c.of-blocks.ensures.value)

pub overflow_add-result : goal.overflow_add-result
overflow_add-result c =
    let command = command-from _ _ _ _ c.note_all.ensures.value c.new-tally.ensures c.deeds.ensures in
    omega (arith, command.few, c.requires.commands, c.note_all.ensures.few, ap units_of c.deeds.ensures, ap length c.deeds.ensures, c.of-blocks.ensures.few)

pub returns : goal.returns
returns c =
    let command = command-from _ _ _ _ c.note_all.ensures.value c.new-tally.ensures c.deeds.ensures in
    let blocks = c.of-blocks.ensures.value in
    blocks-are c.args.stat _ _ _ (ap (λ (b : BlockCounts). b.free) blocks) (ap (λ (b : BlockCounts). b.live) blocks) (ap (λ (b : BlockCounts). b.old) blocks) command
