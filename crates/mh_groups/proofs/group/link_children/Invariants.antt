use Rattle.mh_groups.proofs.LinkLemmas.{HasSomeChildren}
use Rattle.mh_groups.proofs.group.link_children.Given as goal

abbrev pub invariant-loop-index : goal.invariant-loop-index
invariant-loop-index l = HasSomeChildren l.initial.blocks l.place l.children l.blocks l.index
