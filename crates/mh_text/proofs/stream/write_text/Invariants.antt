use Rattle.std.proofs.Common.{◌≤◌, ◌-◌, length, take}
use Rattle.mh_text.specs.Devices.{Takes}
use Rattle.mh_text.proofs.stream.write_text.Given as goal

abbrev pub invariant-loop-from : goal.invariant-loop-from
invariant-loop-from g l = (l.from ≤ length l.text) × Takes (g.W.Sink.device l.initial.sink) (g.W.Sink.device l.sink) (take l.from l.text)

abbrev pub decreases-loop-from : goal.decreases-loop-from
decreases-loop-from g l = length l.text - l.from
