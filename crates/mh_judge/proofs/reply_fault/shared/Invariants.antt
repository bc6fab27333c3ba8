use Rattle.std.proofs.Common.{◌≡◌, ◌≤◌, length, ◌-◌, take}
use Rattle.mh_judge.proofs.reply_fault.shared.Given as goal

abbrev pub invariant-loop-count : goal.invariant-loop-count
invariant-loop-count l = record {
  given : l.count ≤ length l.given;
  right : l.count ≤ length l.right;
  same : take l.count l.given ≡ take l.count l.right;
}

abbrev pub decreases-loop-count : goal.decreases-loop-count
decreases-loop-count l = length l.given - l.count
