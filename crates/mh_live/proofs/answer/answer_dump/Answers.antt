use Rattle.std.proofs.Common.{rules, ap, Err}
use Rattle.mh_live.specs.Auxiliary.{Starved}
use Rattle.mh_live.proofs.LineTurns.{dump_done, undone}
use Rattle.mh_live.proofs.answer.answer_dump.Goals.{in-Ok, in-Err+in_ok-not_done-in-Err}
use Rattle.mh_live.proofs.answer.answer_dump.Goals as goal

pub returns-then-is_err : goal.returns-then-is_err
returns-then-is_err g c = Starved tt (search rules) (search rules)

pub returns : goal.returns
returns g c = elim c.match-step.branch [
  | in-Ok w ↦ rw (w.result-is, w.text-is) (dump_done c.args.machine.now c.step.new.self w.in-Ok.field-0 _ (search rules) w.in-Ok.ensures.step (search rules))
  | in-Err+in_ok-not_done-in-Err w ↦ rw (w.result-is, w.text-is)
      (undone c.args.machine.now c.step.new.self _ _ w.in-Err.stop (λ is. w.in-Err.ensures.full (ap Err is)) (λ is. w.in-Err.ensures.memory (ap Err is)) w.in_ok-not_done-in-Err.ensures.full w.in_ok-not_done-in-Err.ensures.memory (search rules))
]
