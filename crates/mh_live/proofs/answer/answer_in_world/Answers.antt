use Rattle.std.proofs.Common.{rules, ap, Err}
use Rattle.mh_live.specs.Auxiliary.{Grew}
use Rattle.mh_live.proofs.LineTurns.{ungrown}
use Rattle.mh_live.proofs.answer.answer_in_world.Goals as goal

pub returns-in_ok-push_reply_line-in-Ok : goal.returns-in_ok-push_reply_line-in-Ok
returns-in_ok-push_reply_line-in-Ok c = Grew c.in-Ok.reply c.in-Ok.ensures.done (search rules)

pub returns-in_ok-not_done-in-Err : goal.returns-in_ok-not_done-in-Err
returns-in_ok-not_done-in-Err c =
    ungrown c.args.world.now c.command.new.self c.args.who c.args.command.now _ c.in-Err.stop (λ is. c.in-Err.ensures.full (ap Err is)) (λ is. c.in-Err.ensures.memory (ap Err is)) (λ is. c.in-Err.ensures.asked (ap Err is))
    c.in_ok-not_done-in-Err.ensures.full c.in_ok-not_done-in-Err.ensures.memory (search rules)
