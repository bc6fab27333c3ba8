use Rattle.std.proofs.Common.{◌≡◌, ◌+◌, length}
use Rattle.mh_reasons.proofs.operands.has_count.Given as goal

abbrev pub invariant-loop-seen : goal.invariant-loop-seen
invariant-loop-seen l = length l.initial.words ≡ l._seen + length l.words
