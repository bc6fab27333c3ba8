use Rattle.std.proofs.Common.{◌≡◌}
use Rattle.mh_groups.specs.Auxiliary.{without_parts, AllCanBeUnmade}
use Rattle.mh_groups.proofs.group.unmake_parts.Given as goal

abbrev pub invariant-loop-index : goal.invariant-loop-index
invariant-loop-index l = record {
  can : AllCanBeUnmade l.blocks l.places l.fresh l.index;
  back : without_parts l.blocks l.places l.fresh l.index ≡ without_parts l.initial.blocks l.places l.fresh l.fn.count;
}
