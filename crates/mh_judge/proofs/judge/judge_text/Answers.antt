use Rattle.std.proofs.lemmas.Result.{IfOk-weaker}
use Rattle.mh_judge.proofs.ExplainedLemmas.{judged_explained}
use Rattle.mh_judge.proofs.judge.judge_text.Goals as goal

pub returns-in-Ok-clause-explained : goal.returns-in-Ok-clause-explained
returns-in-Ok-clause-explained g c =
    let found = rw (c.version.ensures, c.new.ensures.config) at c.judge_lines.ensures.found in
    IfOk-weaker c.judge_lines.result _ _
    (λ judgement is. judged_explained g.E.JudgedEntry.lawful g.E.JudgedEntry.event_of g.E.TextEntry.is_wrong g.E.TextEntry.version c.args.text.now (g.E.TextEntry.is_fault c.args.given c.args.text.now) _ _ _ judgement c.in-Ok.ensures.lines
    (g.met.E.TextEntry.faulty c.args.given c.args.text.now) is) found
