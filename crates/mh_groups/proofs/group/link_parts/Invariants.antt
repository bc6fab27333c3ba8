use Rattle.mh_groups.proofs.LinkLemmas.{AreLinkedSoFar}
use Rattle.mh_groups.proofs.group.link_parts.Given as goal

abbrev pub invariant-loop-index : goal.invariant-loop-index
invariant-loop-index l = AreLinkedSoFar l.initial.blocks l.parts l.places l.blocks l.index
