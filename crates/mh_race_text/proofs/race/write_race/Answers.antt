use Rattle.std.proofs.Common.{◌≡◌, ◌∙◌, Some, ap, length, refl, sym, arith, inl}
use Rattle.std.specs.Prelude.{Err}
use Rattle.mh_model.specs.{Limits.most_entries, Script.{BadLine, Means, reading}}
use Rattle.mh_script.specs.declared.fault.WriteError.{WriteError}
use Rattle.mh_race.proofs.RacedCalls.{makes-all}
use Rattle.mh_judge.proofs.PerformedLemmas.{takes-none}
use Rattle.mh_race_text.proofs.RacedLemmas.{has_raced, raced_begun, raced_done, raced_full, some_begun}
use Rattle.mh_race_text.proofs.TaskLemmas.{race_fails, race_stops}
use Rattle.mh_race_text.proofs.race.write_race.Goals as goal

pub returns-in_err-raced-in-Ok : goal.returns-in_err-raced-in-Ok
returns-in_err-raced-in-Ok g c =
    let begun = some_begun c.replies_are_promised.ensures (Means c.in-Ok.script) in
    race_fails _ c.in-Ok.ensures.script begun.1 WriteError.NoMemory _ c.from_residual.ensures.1 (takes-none _ begun.0)

pub returns-in_err-write_record-in-Ok : goal.returns-in_err-write_record-in-Ok
returns-in_err-write_record-in-Ok g c =
    let raced = has_raced c.in-Ok.script _ _ _ _ c.config-config.ensures c.config-config.ensures c.as_slice.ensures.value c.in_ok-raced-in-Ok.ensures.legal in
    race_fails _ c.in-Ok.ensures.script (raced_begun c.replies_are_promised.ensures raced (rw c.events.ensures at c.in_ok-raced-in-Ok.ensures.begun)) c.in_err-write_record-in-Ok.field-0.0 _ c.from_residual-in_err-write_record-in-Ok.ensures.1 c.in_err-write_record-in-Ok.ensures

pub returns-in-None : goal.returns-in-None
returns-in-None g c =
    let raced = has_raced c.in-Ok.script _ _ _ _ c.config-config.ensures c.config-config.ensures c.as_slice.ensures.value c.in_ok-raced-in-Ok.ensures.legal in
    let calls = makes-all _ _ _ (rw c.events.ensures at c.in_ok-raced-in-Ok.ensures.each) (c.stop.ensures.none c.in-None.is) in
    record { written = _; does = (_, c.in-Ok.ensures.script, raced_done c.replies_are_promised.ensures raced calls); wrote = c.in_ok-write_record-in-Ok.ensures }

pub returns-in-Ok : goal.returns-in-Ok
returns-in-Ok g c =
    let raced = has_raced c.in-Ok.script _ _ _ _ c.config-config.ensures c.config-config.ensures c.as_slice.ensures.value c.in_ok-raced-in-Ok.ensures.legal in
    let calls = rw c.events.ensures at c.in_ok-raced-in-Ok.ensures.begun in
    race_stops _ c.in-Ok.ensures.script (raced_begun c.replies_are_promised.ensures raced calls) _ c.from.ensures
    (λ is.
    let count = c.stop.ensures.full (c.in-Some.is ∙ ap Some is) in
    let full : length c.in_ok-raced-in-Ok.raced.history.items ≡ most_entries = omega (arith, count, c.in_ok-raced-in-Ok.raced.history.ok.0) in
    (_, c.in-Ok.ensures.script, raced_full c.replies_are_promised.ensures raced full calls))
    c.in_ok-write_record-in-Ok.ensures

pub returns-in-Ok-write_verdict : goal.returns-in-Ok-write_verdict
returns-in-Ok-write_verdict g c =
    let bad = (rw c.in-Err-Line.field-0-is at c.in-Err-Line.ensures.line) ∙ ap BadLine (sym c.in-Err-Line.line-is) in
    record { written = _; does = rw c.of.ensures.line (bad, c.of.ensures.reason, refl); wrote = c.in-Ok-write_verdict.ensures }

pub returns : goal.returns
returns g c =
    let begun = some_begun c.replies_are_promised.ensures (reading c.args.text.now) in
    record { written = begun.0; does = (inl (c.in-Err-NoMemory.ensures.memory (ap Err c.in-Err-NoMemory.field-0-is)), begun.1); wrote = takes-none _ begun.0 }
