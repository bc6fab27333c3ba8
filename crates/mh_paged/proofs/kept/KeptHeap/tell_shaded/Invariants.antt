use Rattle.std.proofs.Common.{map, take, drop}
use Rattle.mh_model.specs.{Deeds.Adds, declared.deed.Deed.Deed}
use Rattle.mh_paged.proofs.kept.KeptHeap.tell_shaded.Given as goal

abbrev pub invariant-loop-index : goal.invariant-loop-index
invariant-loop-index l = Adds l.initial.deeds (map (λ place. Deed.Shade place) (take l.index (drop l.before l.self.collector.grey))) l.deeds
