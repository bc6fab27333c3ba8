use Rattle.std.proofs.Common.{◌∙◌, ◌++◌, ◌∷◌, [], List, map, ap, sym, subst, refl, arith}
use Rattle.std.specs.List.{All}
use Rattle.mh_model.specs.Trace.{TraceState}
use Rattle.mh_report.specs.Kept.{KeptTrace}
use Rattle.mh_window_curve.specs.{declared.point.CurvePoint.CurvePoint, Points.{HasLeast, point_at, windows}}
use Rattle.mh_window_curve.proofs.WindowLemmas.{points_all, points_met, points_more, points_none, windows-none, windows-some}
use Rattle.mh_window_curve.proofs.points.curve_points.Goals as goal

pub returns-then-letters-eq0-clause-points : goal.returns-then-letters-eq0-clause-points
returns-then-letters-eq0-clause-points c =
    c.new-points.ensures.items ∙ sym (ap (map (point_at c.args.config.now c.args.trace.now.trace.letters)) (windows-none _ (sym c.letter_count-letters.ensures ∙ c.if-letters-eq0.true)))

pub loop-window-init : goal.loop-window-init
loop-window-init c = record { points = rw c.new-points.ensures.items (points_none _ _); trace = refl }

pub next_window-window-requires : goal.next_window-window-requires
next_window-window-requires c = omega (arith, c.letter_count-letters.ensures)

pub loop-window-preserved : goal.loop-window-preserved
loop-window-preserved c =
    let same = c.point_at.ensures.point ∙ ap (λ (t : TraceState). point_at c.args.config.now t.letters c.loop-window.window) c.loop-window.invariant.trace in
    record {
      points = rw c.next_window-window.ensures
          (points_more _ _ _ _ _ _ c.loop-window.invariant.points c.loop-window-test.true (c.in_ok-push.ensures.items ∙ ap (λ (p : CurvePoint). c.loop-window.points.items ++ p ∷ []) same));
      trace = ap (λ (k : KeptTrace). k.trace) c.point_at.ensures.kept ∙ c.loop-window.invariant.trace;
    }

pub returns-clause-points : goal.returns-clause-points
returns-clause-points c =
    let same = c.point_at-2.ensures.point ∙ ap (λ (t : TraceState). point_at c.args.config.now t.letters c.letter_count-letters.result) c.loop-window.invariant.trace in
    points_all _ _ _ _ _ _ c.loop-window.invariant.points c.loop-window-test.false (c.in_ok-push-2.ensures.items ∙ ap (λ (p : CurvePoint). c.loop-window.points.items ++ p ∷ []) same)
    ∙ (ap (map (point_at c.args.config.now c.args.trace.now.trace.letters)) (sym (windows-some _ c.if-letters-eq0.false))
    ∙ ap (λ n. map (point_at c.args.config.now c.args.trace.now.trace.letters) (windows n)) c.letter_count-letters.ensures)

pub returns-then-letters-eq0-clause-least : goal.returns-then-letters-eq0-clause-least
returns-then-letters-eq0-clause-least c =
    let P : List CurvePoint → Type 0 = λ points. All (HasLeast c.args.trace.now.trace.letters) points in
    subst P (sym (returns-then-letters-eq0-clause-points c)) (points_met c.args.config.now c.args.trace.now.trace.letters)

pub returns-clause-least : goal.returns-clause-least
returns-clause-least c =
    let P : List CurvePoint → Type 0 = λ points. All (HasLeast c.args.trace.now.trace.letters) points in
    subst P (sym (returns-clause-points c)) (points_met c.args.config.now c.args.trace.now.trace.letters)
