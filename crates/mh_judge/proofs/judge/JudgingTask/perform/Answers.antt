use Rattle.std.proofs.Common.{[], refl}
use Rattle.mh_judge.proofs.{ExplainedLemmas.if_legal, PerformedLemmas.{performed-fault, takes-none}}
use Rattle.mh_judge.proofs.judge.JudgingTask.perform.Goals as goal

pub returns-in_err-judgement : goal.returns-in_err-judgement
returns-in_err-judgement g c = performed-fault _ c.from_residual.ensures.1 (record { written = []; does = (c.in_err-judgement.ensures.memory, refl); wrote = takes-none _ [] })

pub returns-in-Ok : goal.returns-in-Ok
returns-in-Ok g c =
    let text = c.args.text.now in
    let given = c.args.self.now.given in
    let found = c.in_ok-judgement.ensures in
    let legal = if_legal (g.E.TextEntry.judged given text) (g.E.TextEntry.promised given text) (g.met.E.TextEntry.promises c.replies_are_promised.ensures given text) _ found.verdict in
    record { written = _; does = (found.verdict, (found.explained, legal), refl); wrote = rw c.verdict.ensures at c.in-Ok.ensures }
