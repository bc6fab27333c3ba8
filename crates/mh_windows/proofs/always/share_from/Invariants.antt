use Rattle.std.proofs.Common.{◌≡◌, ◌-◌, ◌<◌, ◌≤◌, min, List, drop, length}
use Rattle.mh_model.specs.Trace.{Letter}
use Rattle.mh_windows.specs.Always.{GoToTheEnd, share_from}
use Rattle.mh_windows.proofs.AlwaysLemmas.{share_of_last}
use Rattle.mh_windows.proofs.always.share_from.Given as goal

abbrev pub invariant-loop-i : goal.invariant-loop-i
invariant-loop-i l = record {
  inside : l.i < length l.points;
  goes : (letters : List Letter) × GoToTheEnd letters (drop l.i l.points);
  kept : min l.kept (share_from (drop l.i l.points)) ≡ share_from l.points;
  last : l.kept ≤ share_of_last l.points;
}

abbrev pub decreases-loop-i : goal.decreases-loop-i
decreases-loop-i l = length l.points - l.i
