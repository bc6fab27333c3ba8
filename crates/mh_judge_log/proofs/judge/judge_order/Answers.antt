use Rattle.mh_judge_log.proofs.JudgedLemmas.{kept_bad, kept_fault}
use Rattle.mh_judge_log.proofs.judge.judge_order.Goals as goal

pub returns-in-Some-clause-verdict : goal.returns-in-Some-clause-verdict
returns-in-Some-clause-verdict c =
    kept_bad c.args.may_be_full c.args.rules c.args.order.now c.judge_times-kept.result.0 c.judge_times-kept.ensures.keeps _ (rw c.in-Some.is at c.in_ok-number.ensures.wrong)

pub returns-in-Some-clause-explained : goal.returns-in-Some-clause-explained
returns-in-Some-clause-explained c =
    kept_fault c.args.may_be_full c.args.rules c.args.order.now c.judge_times-kept.result.0 c.judge_times-kept.ensures.keeps _ (rw c.in-Some.is at c.in_ok-number.ensures.wrong)

pub returns-in-None-clause-verdict : goal.returns-in-None-clause-verdict
returns-in-None-clause-verdict c = (c.judge_times-kept.ensures.judged c.args.may_be_full c.args.rules (rw c.in-None.is at c.in_ok-number.ensures.right)).0

pub returns-in-None-clause-explained : goal.returns-in-None-clause-explained
returns-in-None-clause-explained c = (c.judge_times-kept.ensures.judged c.args.may_be_full c.args.rules (rw c.in-None.is at c.in_ok-number.ensures.right)).1
