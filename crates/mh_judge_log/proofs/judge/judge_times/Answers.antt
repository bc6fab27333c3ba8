use Rattle.std.proofs.Common.{refl}
use Rattle.mh_judge_log.proofs.JudgedLemmas.{late_judged, legal_judged}
use Rattle.mh_judge_log.proofs.judge.judge_times.Goals as goal

pub returns-in-Some-clause-judged : goal.returns-in-Some-clause-judged
returns-in-Some-clause-judged c = late_judged c.args.order.now c.begun_after-before.result c.in-Some.place _ _ c.begun_after-before.ensures c.in-Some.ensures.before refl refl

pub returns-in-None-clause-judged : goal.returns-in-None-clause-judged
returns-in-None-clause-judged c = λ may_be_full rules legal. (legal_judged c.args.order.now _ _ c.in-None.ensures.none refl refl may_be_full rules legal, tt)
