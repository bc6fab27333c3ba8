use Rattle.std.proofs.Common.{◌≡◌, ◌∙◌, ◌+◌, Some, sym, subst, arith}
use Rattle.std.specs.Option.{option_or}
use Rattle.mh_size_runs.specs.Auxiliary.{IsLooked}
use Rattle.mh_size_runs.proofs.RowLemmas.{HasLooked, chosen-last, chosen-now, full-at, is-no, is-roomy, looked-full, looked-roomless, seen-with}
use Rattle.mh_size_runs.proofs.rows.outcome_of.Goals.{in-Full, in-Fits}
use Rattle.mh_size_runs.proofs.rows.outcome_of.Goals as goal

pub returns-in-Fits-2 : goal.returns-in-Fits-2
returns-in-Fits-2 g c =
    let config = c.args.config.now in
    let events = c.args.events.now in
    let looked = subst (IsLooked c.heap_with.result events c.args.window) c.in-Fits.is c.in_ok-event.ensures in
    chosen-now config events c.args.pages c.args.window c.loop-place.place c.loop-place.latest c.trigger_at-trigger.result c.in-Fits.seen c.loop-place.first c.loop-place-test.true c.trigger_at-trigger.ensures.value
    (seen-with config events c.args.pages c.args.window c.trigger_at-trigger.result c.heap_with.result c.in-Fits.seen c.heap_with.ensures looked) (is-roomy c.in-Fits.seen.room (sym c.is_roomless.ensures ∙ c.if-is_roomless.false)) c.loop-place.invariant

pub loop-place-preserved : goal.loop-place-preserved
loop-place-preserved g c =
    let config = c.args.config.now in
    let events = c.args.events.now in
    elim c.match-branch-2.branch [
      | in-Full w ↦
          let full = subst (IsLooked c.heap_with.result events c.args.window) w.in-Full.is c.in_ok-event.ensures in
          subst (HasLooked config events c.args.pages c.args.window (c.loop-place.place + 1) c.match-branch-2.latest) (sym w.first-is)
          (subst (λ n. HasLooked config events c.args.pages c.args.window (c.loop-place.place + 1) n c.loop-place.first) (sym (w.latest-is ∙ w.max-latest.ensures))
          (looked-full config events c.args.pages c.args.window c.loop-place.place c.loop-place.latest w.in-Full.event c.trigger_at-trigger.result c.loop-place.first c.loop-place-test.true c.trigger_at-trigger.ensures.value
          (full-at config events c.args.pages c.args.window c.trigger_at-trigger.result w.in-Full.event c.heap_with.result c.heap_with.ensures full) c.loop-place.invariant))
      | in-Fits w ↦
          let looked = subst (IsLooked c.heap_with.result events c.args.window) w.in-Fits.is c.in_ok-event.ensures in
          subst (HasLooked config events c.args.pages c.args.window (c.loop-place.place + 1) c.match-branch-2.latest) (sym (w.first-is ∙ w.or-first.ensures))
          (subst (λ n. HasLooked config events c.args.pages c.args.window (c.loop-place.place + 1) n (option_or c.loop-place.first (Some (c.trigger_at-trigger.result, w.in-Fits.seen)))) (sym w.latest-is)
          (looked-roomless config events c.args.pages c.args.window c.loop-place.place c.loop-place.latest c.trigger_at-trigger.result w.in-Fits.seen c.loop-place.first c.loop-place-test.true c.trigger_at-trigger.ensures.value
          (seen-with config events c.args.pages c.args.window c.trigger_at-trigger.result c.heap_with.result w.in-Fits.seen c.heap_with.ensures looked) (is-no w.in-Fits.seen.room (sym w.is_roomless.ensures ∙ w.if-is_roomless.true)) c.loop-place.invariant))
    ]

pub returns-in-Some : goal.returns-in-Some
returns-in-Some g c =
    let config = c.args.config.now in
    let events = c.args.events.now in
    let five : c.loop-place.place ≡ 5 = omega (arith, c.loop-place-test.false, c.loop-place.auto.place-end) in
    chosen-last config events c.args.pages c.args.window c.loop-place.place c.loop-place.latest c.in-Some.trigger c.in-Some.seen five
    (subst (HasLooked config events c.args.pages c.args.window c.loop-place.place c.loop-place.latest) c.in-Some.is c.loop-place.invariant)
