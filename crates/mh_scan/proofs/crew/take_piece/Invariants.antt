use Rattle.std.proofs.Common.{◌≡◌, ◌<◌, drop}
use Rattle.mh_scan.specs.Auxiliary.{times_found}
use Rattle.mh_scan.proofs.crew.take_piece.Given as goal

abbrev pub invariant-loop-index : goal.invariant-loop-index
invariant-loop-index l = record {
  same : l.found ≡ l.initial.found;
  rest : 0 < times_found l.piece (drop l.index l.found.items);
}
