use Rattle.std.proofs.Common.{ap, inr, sym, ◌∙◌}
use Rattle.mh_model.specs.Script.{BadLine, Means}
use Rattle.mh_script.proofs.RunLemmas.{ends-as, ends-few, ends-many, few_entries, many_entries, runs_short, transcribed}
use Rattle.mh_script.proofs.transcript.write_transcript.Goals as goal

pub write_answers-requires : goal.write_answers-requires
write_answers-requires g c = record { short = runs_short _ (inr (_, c.in-Ok.ensures.script)) }

pub returns-in-Ok-write_answers : goal.returns-in-Ok-write_answers
returns-in-Ok-write_answers g c =
    transcribed _ _ _ _ (Means _) c.in-Ok.ensures.script c.in-Ok-write_answers.ensures.written (ends-many _ _ c.in-Ok.ensures.script (many_entries _ c.events.result.now c.events.ensures c.if-events-gt-MOST_ANSWERED.true))
    (_, c.in-Ok.ensures.script, c.in-Ok-write_answers.ensures.becomes)

pub returns-in-Ok-2 : goal.returns-in-Ok-2
returns-in-Ok-2 g c =
    transcribed _ _ _ _ (Means _) c.in-Ok.ensures.script c.in-Ok-2.ensures.written (ends-few _ _ c.in-Ok.ensures.script (few_entries _ c.events.result.now c.events.ensures c.if-events-gt-MOST_ANSWERED.false))
    (_, c.in-Ok.ensures.script, c.in-Ok-2.ensures.becomes)

pub returns-in-Ok : goal.returns-in-Ok
returns-in-Ok g c = transcribed _ _ _ _ (Means _) c.in-Ok.ensures.script (rw c.in-Err-NoMemory-write_answers.field-0-is at c.in-Err-NoMemory-write_answers.ensures.written) (inr (_, c.in-Ok.ensures.script)) tt

pub returns-in-Ok-write_verdict : goal.returns-in-Ok-write_verdict
returns-in-Ok-write_verdict g c =
    let bad = (rw c.in-Err-Line.field-0-is at c.in-Err-Line.ensures.line) ∙ ap BadLine (sym c.in-Err-Line.line-is) in
    transcribed _ _ _ _ (BadLine _) bad c.in-Ok-write_verdict.ensures (rw c.of.ensures.line (ends-as _ bad), rw c.of.ensures.line c.of.ensures.reason) tt
