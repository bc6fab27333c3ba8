use Rattle.std.proofs.Common.{◌≡◌, ◌+◌, ◌≤◌, drop}
use Rattle.mh_tell_chrome.specs.{Deeds.counted_all, Auxiliary.total}
use Rattle.mh_tell_chrome.proofs.counters.count_all.Given as goal

abbrev pub invariant-loop-deed : goal.invariant-loop-deed
invariant-loop-deed l = record {
  counts : counted_all l.counted (drop l.deed-index l.deeds) ≡ counted_all l.initial.counted l.deeds;
  few : total l.counted ≤ total l.initial.counted + l.deed-index;
}
