use Rattle.std.proofs.Common.{◌≡◌, map, take}
use Rattle.mh_model.specs.Table.{references_at, target_of}
use Rattle.mh_scan.proofs.answers.scan_block.Given as goal

abbrev pub invariant-loop-index : goal.invariant-loop-index
invariant-loop-index l = l.found.items ≡ map (target_of l.blocks) (take l.index (references_at l.blocks l.fn.place))
