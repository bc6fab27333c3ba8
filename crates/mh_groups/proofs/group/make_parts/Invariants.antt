use Rattle.mh_groups.proofs.MadeLemmas.{AreMadeSoFar}
use Rattle.mh_groups.proofs.group.make_parts.Given as goal

abbrev pub invariant-loop-index : goal.invariant-loop-index
invariant-loop-index l = AreMadeSoFar l.initial.blocks l.birth l.stamp l.parts l.blocks l.places l.fresh l.index
