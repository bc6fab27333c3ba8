use Rattle.std.proofs.Common.{take}
use Rattle.mh_scan.specs.Asking.{AreAnswers}
use Rattle.mh_scan.proofs.answers.ask_each.Given as goal

abbrev pub invariant-loop-place : goal.invariant-loop-place
invariant-loop-place l = AreAnswers l.blocks l.asks (take l.place-index l.batch) l.answers
