use Rattle.std.proofs.Common.{◌≡◌, ◌≤◌, take}
use Rattle.mh_reasons.proofs.quoted.quote.Given as goal

abbrev pub invariant-loop-byte : goal.invariant-loop-byte
invariant-loop-byte l = (l.bytes.items ≡ take l.byte-index l.word) × (l.byte-index ≤ 80)
