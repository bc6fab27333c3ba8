use Rattle.std.proofs.Common.{take}
use Rattle.mh_deeds.specs.Logs.{Told}
use Rattle.mh_groups.specs.Auxiliary.{placed_deeds}
use Rattle.mh_groups.proofs.group.tell_parts.Given as goal

abbrev pub invariant-loop-index : goal.invariant-loop-index
invariant-loop-index g l = Told g.L.Log.has l.initial.log (placed_deeds l.blocks l.birth l.places l.fresh 0 (take l.index l.parts)) l.log
