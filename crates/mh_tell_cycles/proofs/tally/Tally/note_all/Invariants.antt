use Rattle.std.proofs.Common.{◌≡◌, take}
use Rattle.mh_tell_cycles.specs.Tallies.{tally_all}
use Rattle.mh_tell_cycles.proofs.tally.Tally.note_all.Given as goal

abbrev pub invariant-loop-deed : goal.invariant-loop-deed
invariant-loop-deed l = l.self ≡ tally_all l.fn.self (take l.deed-index l.deeds)
