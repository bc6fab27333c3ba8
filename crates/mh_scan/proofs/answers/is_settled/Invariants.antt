use Rattle.std.proofs.Common.{◌≡◌, drop}
use Rattle.std.specs.List.{list_all}
use Rattle.mh_model.specs.Table.{references_at}
use Rattle.mh_scan.specs.Scanning.{is_reached, is_settled}
use Rattle.mh_scan.proofs.answers.is_settled.Given as goal

abbrev pub invariant-loop-index : goal.invariant-loop-index
invariant-loop-index l = is_settled l.blocks l.cycle l.fn.place ≡ list_all (is_reached l.blocks l.cycle) (drop l.index (references_at l.blocks l.fn.place))
