use Rattle.std.proofs.{Common.{◌∙◌, ap, sym}, lemmas.Bool.false≢true}
use Rattle.mh_model.specs.declared.history.Verdict.TheVariants.{Refused}
use Rattle.mh_judge_sessions.proofs.OpenedLemmas.{found_refused, opened_bad, sessions_found}
use Rattle.mh_judge_sessions.proofs.texts.judge_sessions.Goals as goal

pub returns-in-Err-clause-found : goal.returns-in-Err-clause-found
returns-in-Err-clause-found c =
    found_refused c.args.may_be_full c.args.asked c.args.text.now _ _ c.in-Err.ensures.line c.refused_at.ensures.verdict (c.refused_at.ensures.explained c.args.may_be_full c.args.asked)

pub returns-in-Ok-Some-clause-found : goal.returns-in-Ok-Some-clause-found
returns-in-Ok-Some-clause-found c =
    let found = sessions_found c.args.text.now _ _ c.in-Ok.ensures.lines c.args.may_be_full c.args.asked c.open-watch.result c.open-watch.ensures.version c.open-watch.ensures.may_be_full (c.open-watch.ensures.rules ∙ c.rules_for.ensures) c.follow_lines.new.follower c.follow_lines.new.lines c.in-Ok-Some.field-0 c.in-Ok-Some.ensures.found in
    rw c.tally.ensures (rw c.in-Ok-Some.field-0-is at found)

pub returns-in-Ok-None-clause-found : goal.returns-in-Ok-None-clause-found
returns-in-Ok-None-clause-found c =
    let found = sessions_found c.args.text.now _ _ c.in-Ok.ensures.lines c.args.may_be_full c.args.asked c.open-watch.result c.open-watch.ensures.version c.open-watch.ensures.may_be_full (c.open-watch.ensures.rules ∙ c.rules_for.ensures) c.follow_lines.new.follower c.follow_lines.new.lines c.in-Ok-None.field-0 c.in-Ok-None.ensures.found in
    let whole = (rw c.in-Ok-None.field-0-is at found).0 in
    rw c.tally-in-Ok-None.ensures (whole (c.is_empty.ensures.0 c.if-is_empty.true).0 c.followed.result (c.followed.ensures c.open-watch.result))

pub returns-in-Ok-None-2-clause-found : goal.returns-in-Ok-None-2-clause-found
returns-in-Ok-None-2-clause-found c =
    let found = sessions_found c.args.text.now _ _ c.in-Ok.ensures.lines c.args.may_be_full c.args.asked c.open-watch.result c.open-watch.ensures.version c.open-watch.ensures.may_be_full (c.open-watch.ensures.rules ∙ c.rules_for.ensures) c.follow_lines.new.follower c.follow_lines.new.lines c.in-Ok-None.field-0 c.in-Ok-None.ensures.found in
    let cut = (rw c.in-Ok-None.field-0-is at found).1 (λ none. false≢true (sym c.if-is_empty.false ∙ c.is_empty.ensures.1 none)) in
    rw c.tally-in-Ok-None-2.ensures (cut _ (c.refused_at-in-Ok-None-2.ensures.verdict ∙ ap Refused c.number.ensures) (c.refused_at-in-Ok-None-2.ensures.explained c.args.may_be_full c.args.asked))

pub refused_at-requires-in-Line : goal.refused_at-requires-in-Line
refused_at-requires-in-Line c =
    (opened_bad c.args.text.now _ _ c.in-Ok.ensures.lines c.in-Line.line (rw c.open-watch.ensures.version at (rw c.in-Line.is at c.in-Err-follow_lines.ensures.line))).reading

pub returns-in-Line-clause-found : goal.returns-in-Line-clause-found
returns-in-Line-clause-found c =
    let bad = opened_bad c.args.text.now _ _ c.in-Ok.ensures.lines c.in-Line.line (rw c.open-watch.ensures.version at (rw c.in-Line.is at c.in-Err-follow_lines.ensures.line)) in
    found_refused c.args.may_be_full c.args.asked c.args.text.now _ _ bad c.refused_at-in-Line.ensures.verdict (c.refused_at-in-Line.ensures.explained c.args.may_be_full c.args.asked)
