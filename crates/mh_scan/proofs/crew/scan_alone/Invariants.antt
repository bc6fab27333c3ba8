use Rattle.std.proofs.Common.{take}
use Rattle.mh_scan.specs.Asking.{AreAnswers}
use Rattle.mh_scan.proofs.crew.scan_alone.Given as goal

abbrev pub invariant-loop-index : goal.invariant-loop-index
invariant-loop-index g l = AreAnswers l.blocks l.asks (take l.index l.batch) l.answers
