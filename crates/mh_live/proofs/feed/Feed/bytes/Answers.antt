use Rattle.std.proofs.{Common.{rules, ◌∙◌, [], ◌∷◌, ◌++◌, append-nil, refl}, lemmas.Result.err_from_is_err_and}
use Rattle.mh_live.proofs.FeedLemmas.{fed_line, fed_rest, fed_untold, some_in_line, some_stopped, taken_line}
use Rattle.mh_live.proofs.feed.Feed.bytes.Goals as goal

pub loop-piece-init : goal.loop-piece-init
loop-piece-init g c = (refl, ([], refl, λ opened text first start fed. rw append-nil fed))

pub returns-then-is_err-clause-begun : goal.returns-then-is_err-clause-begun
returns-then-is_err-clause-begun g c =
    let inv = c.loop-piece.invariant.1 in
    λ opened text first start fed. some_stopped _ _ text first _ c.loop-piece.self _ inv.0 c.loop-piece.rest.now refl inv.1 (inv.2 opened text first start fed)

pub returns-in_err-line-clause-begun : goal.returns-in_err-line-clause-begun
returns-in_err-line-clause-begun g c =
    let inv = c.loop-piece.invariant.1 in
    let returned = err_from_is_err_and c.from_residual.result c.from_residual.ensures.1 in
    rw returned.1
    (λ opened text first start fed. some_in_line _ returned.0 text first _ _ c.loop-piece.self (record c.loop-piece.self { begun = c.extend_from_slice.new.self }) _ inv.0 c.loop-piece.rest.now c.in-Some.piece.now c.in-Some.next.now inv.1 c.in-Some.ensures.whole c.in-Some.ensures.first
    (fed_untold g.L.Listener.hears g.met.L.Listener.onward start c.loop-piece.listener c.line.new.listener _ first _ c.loop-piece.self c.in_err-line.ensures.untold (inv.2 opened text first start fed)) refl refl (search rules) (rw returned.2 c.in_err-line.ensures.begun))

pub loop-piece-preserved : goal.loop-piece-preserved
loop-piece-preserved g c =
    let inv = c.loop-piece.invariant.1 in (
      c.in_ok-line.ensures.no_failure ∙ c.loop-piece.invariant.0,
      (
        inv.0 ++ (c.in-Some.piece.now ++ 10 ∷ []),
        taken_line _ inv.0 c.loop-piece.rest.now _ _ inv.1 c.in-Some.ensures.whole,
        λ opened text first start fed. fed_line g.L.Listener.hears g.met.L.Listener.onward start c.loop-piece.listener c.line.new.listener text first _ _ c.loop-piece.self _ c.line.new.self inv.0 c.in-Some.piece.now c.in-Some.ensures.first (inv.2 opened text first start fed) refl refl (search rules) c.in_ok-line.ensures.done,
      ),
    )

pub returns-then-is_err-2-clause-begun : goal.returns-then-is_err-2-clause-begun
returns-then-is_err-2-clause-begun g c =
    let inv = c.loop-piece.invariant.1 in
    λ opened text first start fed. some_stopped _ _ text first _ c.loop-piece.self _ inv.0 c.loop-piece.rest.now refl inv.1 (inv.2 opened text first start fed)

pub returns-clause-done : goal.returns-clause-done
returns-clause-done g c =
    let inv = c.loop-piece.invariant.1 in
    λ opened text first start fed. fed_rest _ text first _ c.loop-piece.self _ inv.0 c.loop-piece.rest.now _ inv.1 (search rules) (inv.2 opened text first start fed) (search rules)
