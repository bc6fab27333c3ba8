use Rattle.std.proofs.Common.{◌≡◌, ◌∙◌, ◌+◌, None, Some, Option, IsSomeAnd, sym, subst, arith}
use Rattle.mh_model.specs.declared.config.Config.{Config}
use Rattle.mh_size_runs.specs.Full.{first_full}
use Rattle.mh_size_runs.proofs.TriedLemmas.{AreFull, all-full, none-full, one-fits, one-more}
use Rattle.mh_size_runs.proofs.tried.try_triggers.Goals as goal

pub loop-place-init : goal.loop-place-init
loop-place-init g c = none-full c.args.config.now c.args.events.now c.args.pages

pub returns-in-None : goal.returns-in-None
returns-in-None g c =
    one-fits c.args.config.now c.args.events.now c.args.pages c.loop-place.place c.loop-place.latest c.trigger_at-trigger.result c.loop-place-test.true c.trigger_at-trigger.ensures.value
    (subst (λ (o : Option Config). IsSomeAnd o (λ heap. first_full heap c.args.events.now ≡ None)) (sym c.heap_with.ensures) (sym c.in_ok-first_full.ensures ∙ c.in-None.is)) c.loop-place.invariant

pub loop-place-preserved : goal.loop-place-preserved
loop-place-preserved g c =
    subst (AreFull c.args.config.now c.args.events.now c.args.pages (c.loop-place.place + 1)) (sym c.max-latest.ensures)
    (one-more c.args.config.now c.args.events.now c.args.pages c.loop-place.place c.loop-place.latest c.in-Some.event c.trigger_at-trigger.result c.loop-place-test.true c.trigger_at-trigger.ensures.value
    (subst (λ (o : Option Config). IsSomeAnd o (λ heap. first_full heap c.args.events.now ≡ Some c.in-Some.event)) (sym c.heap_with.ensures) (sym c.in_ok-first_full.ensures ∙ c.in-Some.is)) c.loop-place.invariant)

pub returns : goal.returns
returns g c = all-full c.args.config.now c.args.events.now c.args.pages c.loop-place.place c.loop-place.latest (omega (arith, c.loop-place-test.false)) (omega arith) c.loop-place.invariant
