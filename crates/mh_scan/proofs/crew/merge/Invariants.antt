use Rattle.std.proofs.Common.{ℕ, ◌<◌, ◌≤◌, ◌*◌, All, take, length}
use Rattle.mh_scan.specs.{Asking.AreAnswers, Auxiliary.{IsFound, piece_count, times_found}}
use Rattle.mh_scan.proofs.crew.merge.Given as goal

abbrev pub invariant-loop-piece : goal.invariant-loop-piece
invariant-loop-piece l = record {
  found : All (IsFound l.blocks l.fn.asks l.batch) l.found.items;
  whole : (number : ℕ) → l.piece ≤ number → number < piece_count (length l.batch) → 0 < times_found number l.found.items;
  merged : AreAnswers l.blocks l.fn.asks (take (l.piece * 16) l.batch) l.merged;
}
