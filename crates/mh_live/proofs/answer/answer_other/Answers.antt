use Rattle.std.proofs.Common.{rules, ap, Err}
use Rattle.mh_live.specs.Auxiliary.{Done}
use Rattle.mh_live.proofs.LineTurns.{undone}
use Rattle.mh_live.proofs.answer.answer_other.Goals as goal

pub returns-in_ok-push_reply_line-in-Ok : goal.returns-in_ok-push_reply_line-in-Ok
returns-in_ok-push_reply_line-in-Ok g c = Done c.in-Ok.reply (search rules) c.in-Ok.ensures.step (search rules)

pub returns-in_ok-not_done-in-Err : goal.returns-in_ok-not_done-in-Err
returns-in_ok-not_done-in-Err g c =
    undone c.args.machine.now c.step.new.self c.args.event _ c.in-Err.stop (λ is. c.in-Err.ensures.full (ap Err is)) (λ is. c.in-Err.ensures.memory (ap Err is)) c.in_ok-not_done-in-Err.ensures.full c.in_ok-not_done-in-Err.ensures.memory (search rules)
