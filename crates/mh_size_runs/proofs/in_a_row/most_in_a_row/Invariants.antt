use Rattle.std.proofs.Common.{◌≡◌, ◌-◌, ◌*◌, ◌^◌, ◌≤◌, length, take, drop, sum}
use Rattle.mh_size_laws.specs.Room.{most_in_a_row}
use Rattle.mh_size_runs.proofs.in_a_row.most_in_a_row.Given as goal

abbrev pub invariant-loop-start : goal.invariant-loop-start
invariant-loop-start l = record {
  sum : l.sum ≡ sum (take l.fn.count (drop l.start l.numbers));
  few : l.sum ≤ (length l.numbers - l.start) * 2 ^ 64;
  most : l.most ≡ most_in_a_row l.fn.count (drop l.start l.numbers);
}
