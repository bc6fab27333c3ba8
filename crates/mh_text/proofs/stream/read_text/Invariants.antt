use Rattle.std.proofs.Common.{◌+◌, ◌-◌, vec_len}
use Rattle.mh_text.specs.Devices.{Gives}
use Rattle.mh_text.proofs.stream.read_text.Given as goal

abbrev pub invariant-loop-chunk : goal.invariant-loop-chunk
invariant-loop-chunk g l = Gives (g.S.Source.device l.initial.source) (g.S.Source.device l.source) l.text.items

abbrev pub decreases-loop-chunk : goal.decreases-loop-chunk
decreases-loop-chunk g l = l.most + 1 - vec_len l.text
