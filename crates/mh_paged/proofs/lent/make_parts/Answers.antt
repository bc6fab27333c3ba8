use Rattle.mh_paged.proofs.MadeLemmas.{framed-made}
use Rattle.mh_paged.proofs.lent.make_parts.Goals as goal

pub invariant_of-cycle : goal.invariant_of-cycle
invariant_of-cycle g c =
    framed-made c.making_keeps_the_pages.ensures c.cycle.inside.config c.cycle.inside.blocks c.make_group.new.blocks c.cycle.inside.phase c.cycle.inside.cursor c.cycle.inside.grey c.args.birth c.cycle_number-stamp.result c.args.shape.references c.args.shape.numbers c.args.all.now c.requires.parts c.make_group.result c.cycle.invariant c.make_group.ensures.made c.make_group.ensures.unchanged
