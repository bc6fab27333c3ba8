use Rattle.mh_bits.specs.Bits.{IsZeroed}
use Rattle.mh_bits.proofs.counted.Counted.clear.Given as goal

abbrev pub invariant-loop-at : goal.invariant-loop-at
invariant-loop-at l = IsZeroed l.fn.self l.self-inside.words.items l.first l.at
