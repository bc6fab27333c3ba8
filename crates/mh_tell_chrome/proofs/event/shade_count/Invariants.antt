use Rattle.std.proofs.Common.{◌≡◌, ◌+◌, ◌≤◌, drop}
use Rattle.mh_tell_chrome.specs.Runs.{shade_count}
use Rattle.mh_tell_chrome.proofs.event.shade_count.Given as goal

abbrev pub invariant-loop-deed : goal.invariant-loop-deed
invariant-loop-deed l = record {
  counted : l.count + shade_count (drop l.deed-index l.deeds) ≡ shade_count l.deeds;
  few : l.count ≤ l.deed-index;
}
