use Rattle.std.proofs.Common.{rules, arith, ◌≡◌, ◌<◌, ◌∙◌, [], ◌++◌, length, take, refl, length-append, length-take-le}
use Rattle.std.proofs.{KnownBytes.{Consumes-kept, Consumes-nil, Consumes-trans}, lemmas.Result.err_from_is_err_and}
use Rattle.std.specs.Prelude.{Ok}
use Rattle.mh_live.specs.Heard.{unended_refusal}
use Rattle.mh_live.proofs.FeedLemmas.{all_answered, fed_none, fed_some, fed_untold, front_of_end, front_of_fed, front_of_some, no_read, read_ended, whole_of_fed}
use Rattle.mh_live.proofs.{PromiseLemmas.keeps_live, TalkLemmas.{prompt_fed, sends_more, sends_none}}
use Rattle.mh_live.proofs.TurnLemmas.{heard_more}
use Rattle.mh_live.proofs.feed.run_live.Goals as goal

pub loop-init : goal.loop-init
loop-init g c = (refl, refl, ([], Consumes-nil _, fed_none _ _ c.new-feed.result c.new-feed.ensures.live c.new-feed.ensures.number c.new-feed.ensures.begun (g.met.L.Listener.silence c.args.listener.now), omega arith, sends_none _))

pub read-requires-clause-prompt : goal.read-requires-clause-prompt
read-requires-clause-prompt g c =
    let inv = c.loop.invariant.2 in
    prompt_fed c.args.live _ _ _ inv.0 _ _ c.loop.feed c.requires.silent inv.4 inv.2

pub returns-in_default-clause-begun : goal.returns-in_default-clause-begun
returns-in_default-clause-begun g c =
    let inv = c.loop.invariant.2 in
    front_of_fed _ _ _ _ _ _ inv.0 c.loop.feed refl (Consumes-kept _ _ _ _ inv.1 c.in_default.ensures.failed.bytes) inv.2

pub returns-in_default-clause-prompt : goal.returns-in_default-clause-prompt
returns-in_default-clause-prompt g c =
    let inv = c.loop.invariant.2 in
    λ _. whole_of_fed _ _ _ _ _ inv.0 c.loop.feed (Consumes-kept _ _ _ _ inv.1 c.in_default.ensures.failed.bytes) inv.2

pub returns-in_default-clause-promise : goal.returns-in_default-clause-promise
returns-in_default-clause-promise g c = λ waits. keeps_live c.replies_are_promised.ensures waits _ tt (returns-in_default-clause-begun g c) (returns-in_default-clause-prompt g c)

pub returns-in_err-end-clause-begun : goal.returns-in_err-end-clause-begun
returns-in_err-end-clause-begun g c =
    let inv = c.loop.invariant.2 in
    let returned = err_from_is_err_and c.from_residual.result c.from_residual.ensures.1 in
    let fed = fed_untold g.L.Listener.hears g.met.L.Listener.onward c.args.listener.now c.loop.listener c.end.new.listener inv.0 _ _ c.loop.feed c.in_err-end.ensures.untold inv.2 in
    rw returned.1 (front_of_end _ _ _ _ _ _ _ inv.0 c.read.new.buffer c.in-Ok.count c.loop.feed inv.1 c.in-Ok.ensures.read.bytes (search rules) fed _ returned.0 returned.2 c.in_err-end.ensures.begun)

pub returns-in_err-end-clause-prompt : goal.returns-in_err-end-clause-prompt
returns-in_err-end-clause-prompt g c =
    let returned = err_from_is_err_and c.from_residual.result c.from_residual.ensures.1 in
    rw returned.1 (λ is. absurd (no_read _ returned.0 returned.2 is))

pub returns-in_err-end-clause-promise : goal.returns-in_err-end-clause-promise
returns-in_err-end-clause-promise g c =
    let returned = err_from_is_err_and c.from_residual.result c.from_residual.ensures.1 in
    λ waits. keeps_live c.replies_are_promised.ensures waits _ (rw returned.1 tt) (returns-in_err-end-clause-begun g c) (returns-in_err-end-clause-prompt g c)

pub returns-in_err-end-clause-memory : goal.returns-in_err-end-clause-memory
returns-in_err-end-clause-memory g c =
    let inv = c.loop.invariant.2 in
    λ _. record {
      text = inv.0;
      some = fed_some _ _ _ _ _ _ _ inv.2 c.in_err-end.ensures.some;
      gives = record { bytes = read_ended _ _ _ inv.0 c.read.new.buffer c.in-Ok.count inv.1 c.in-Ok.ensures.read.bytes (search rules); works = c.in-Ok.ensures.read.works ∙ c.loop.invariant.0 };
    }

pub returns-then-count-eq0-clause-answered : goal.returns-then-count-eq0-clause-answered
returns-then-count-eq0-clause-answered g c =
    let inv = c.loop.invariant.2 in
    let heard = heard_more g.L.Listener.hears g.met.L.Listener.onward c.args.listener.now c.loop.listener c.end.new.listener inv.2.refusals (unended_refusal c.loop.feed.number c.loop.feed.begun.items) inv.2.heard c.in_ok-end.ensures.told in
    all_answered _ _ _ _ _ _ _ inv.0 c.read.new.buffer c.in-Ok.count c.loop.feed inv.1 c.in-Ok.ensures.read.bytes (search rules) inv.2 (λ refusals. g.L.Listener.hears c.args.listener.now refusals c.end.new.listener) (c.in-Ok.ensures.end (search rules)) c.in_ok-end.ensures.done heard

pub returns-then-count-eq0-clause-promise : goal.returns-then-count-eq0-clause-promise
returns-then-count-eq0-clause-promise g c = λ waits. keeps_live c.replies_are_promised.ensures waits (Ok tt) (returns-then-count-eq0-clause-answered g c) tt (λ is. cc)

pub returns-in_err-bytes-clause-begun : goal.returns-in_err-bytes-clause-begun
returns-in_err-bytes-clause-begun g c =
    let inv = c.loop.invariant.2 in
    let returned = err_from_is_err_and c.from_residual-in_err-bytes.result c.from_residual-in_err-bytes.ensures.1 in
    rw returned.1 (front_of_some _ _ returned.0 _ _ _ _ _ inv.0 (take c.in-Ok.count c.read.new.buffer) returned.2 inv.1 c.in-Ok.ensures.read.bytes (c.in_err-bytes.ensures.begun c.args.live inv.0 _ c.args.listener.now inv.2))

pub returns-in_err-bytes-clause-prompt : goal.returns-in_err-bytes-clause-prompt
returns-in_err-bytes-clause-prompt g c =
    let returned = err_from_is_err_and c.from_residual-in_err-bytes.result c.from_residual-in_err-bytes.ensures.1 in
    rw returned.1 (λ is. absurd (no_read _ returned.0 returned.2 is))

pub returns-in_err-bytes-clause-promise : goal.returns-in_err-bytes-clause-promise
returns-in_err-bytes-clause-promise g c =
    let returned = err_from_is_err_and c.from_residual-in_err-bytes.result c.from_residual-in_err-bytes.ensures.1 in
    λ waits. keeps_live c.replies_are_promised.ensures waits _ (rw returned.1 tt) (returns-in_err-bytes-clause-begun g c) (returns-in_err-bytes-clause-prompt g c)

pub returns-in_err-bytes-clause-memory : goal.returns-in_err-bytes-clause-memory
returns-in_err-bytes-clause-memory g c =
    let inv = c.loop.invariant.2 in
    let count : length (take c.in-Ok.count c.read.new.buffer) ≡ c.in-Ok.count = length-take-le c.in-Ok.count c.read.new.buffer c.in-Ok.ensures.within in
    let some : 0 < length (inv.0 ++ take c.in-Ok.count c.read.new.buffer) = omega (arith, count, length-append inv.0 (take c.in-Ok.count c.read.new.buffer)) in
    λ _. record { text = _; some = some; gives = record { bytes = Consumes-trans _ _ _ _ _ inv.1 c.in-Ok.ensures.read.bytes; works = c.in-Ok.ensures.read.works ∙ c.loop.invariant.0 } }

pub loop-preserved : goal.loop-preserved
loop-preserved g c =
    let inv = c.loop.invariant in
    let count : length (take c.in-Ok.count c.read.new.buffer) ≡ c.in-Ok.count = length-take-le c.in-Ok.count c.read.new.buffer c.in-Ok.ensures.within in (
      c.in-Ok.ensures.read.works ∙ inv.0,
      c.in_ok-bytes.ensures.no_failure ∙ inv.1,
      (
        inv.2.0 ++ take c.in-Ok.count c.read.new.buffer,
        Consumes-trans _ _ _ _ _ inv.2.1 c.in-Ok.ensures.read.bytes,
        c.in_ok-bytes.ensures.done c.args.live inv.2.0 _ c.args.listener.now inv.2.2,
        omega (arith, inv.2.3, count, length-append inv.2.0 (take c.in-Ok.count c.read.new.buffer)),
        sends_more _ _ _ inv.2.0 _ inv.2.4 c.in-Ok.ensures.sent,
      ),
    )

pub returns-clause-begun : goal.returns-clause-begun
returns-clause-begun g c =
    let inv = c.loop.invariant.2 in
    front_of_fed _ _ _ _ _ _ inv.0 c.loop.feed refl inv.1 inv.2

pub returns-clause-promise : goal.returns-clause-promise
returns-clause-promise g c = λ waits. keeps_live c.replies_are_promised.ensures waits _ tt (returns-clause-begun g c) (λ is. cc)

pub returns-clause-memory : goal.returns-clause-memory
returns-clause-memory g c =
    let inv = c.loop.invariant.2 in
    λ _. record { text = inv.0; some = omega (arith, inv.3); gives = record { bytes = inv.1; works = c.loop.invariant.0 } }
