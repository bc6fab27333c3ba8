use Rattle.mh_judge.proofs.LongLemmas.{judged_long}
use Rattle.mh_judge.proofs.judge.JudgingTask.most_bytes.Goals as goal

pub returns-clause-long : goal.returns-clause-long
returns-clause-long g c = λ old new.
    let given = old.given in
    let text = g.E.TextEntry in
    let law = g.met.E.TextEntry in
    judged_long text.version g.E.JudgedEntry.lawful (text.reading given) (text.judged given) (text.is_fault given) (text.promised given) text.begins (law.long given) (law.judges given) (law.is_judged given) law.short
