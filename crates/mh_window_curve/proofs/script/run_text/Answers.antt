use Rattle.std.proofs.Common.{◌∙◌, ◌<◌, length, ap, subst, sym}
use Rattle.mh_model.specs.{declared.birth.TheConstants.LIFE, Machine.Machine, Trace.TraceState}
use Rattle.mh_window_curve.specs.Promises.{IsJudged}
use Rattle.mh_window_curve.proofs.RunLemmas.{short_run}
use Rattle.mh_window_curve.proofs.script.run_text.Goals as goal

pub curve_points-requires : goal.curve_points-requires
curve_points-requires g c =
    let P : TraceState → Type 0 = λ trace. length trace.letters < LIFE in
    subst P (sym (c.into_parts-trace.ensures.trace ∙ ap (λ (m : Machine). m.trace) c.in_ok-machine.ensures.machine)) (short_run c.runs_stay_within_their_events.ensures c.args.config c.args.events.now c.requires)

pub judge_promises-judgement-requires : goal.judge_promises-judgement-requires
judge_promises-judgement-requires g c =
    let P : TraceState → Type 0 = λ trace. length trace.letters < LIFE in
    subst P (sym (c.into_parts-trace.ensures.trace ∙ ap (λ (m : Machine). m.trace) c.in_ok-machine.ensures.machine)) (short_run c.runs_stay_within_their_events.ensures c.args.config c.args.events.now c.requires)

pub returns-clause-judgement : goal.returns-clause-judgement
returns-clause-judgement g c =
    let P : TraceState → Type 0 = λ trace. IsJudged c.args.options.promises trace.letters c.judge_promises-judgement.result in
    subst P (c.into_parts-trace.ensures.trace ∙ ap (λ (m : Machine). m.trace) c.in_ok-machine.ensures.machine) c.judge_promises-judgement.ensures
