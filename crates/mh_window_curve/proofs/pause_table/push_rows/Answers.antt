use Rattle.std.proofs.Common.{◌≡◌, ◌∙◌, ◌<◌, ◌-◌, ◌++◌, List, ap, drop, get_or, length, subst, sym, take, arith}
use Rattle.mh_windows.specs.{Always.GoToTheEnd, declared.always.WindowLeast.WindowLeast}
use Rattle.std.specs.String.{string_bytes}
use Rattle.mh_window_curve.specs.PauseTexts.{row_text}
use Rattle.mh_window_curve.proofs.PlaceLemmas.{goes_from, rest_of, rows_more}
use Rattle.mh_window_curve.proofs.pause_table.push_rows.Goals as goal

pub push_row-requires : goal.push_row-requires
push_row-requires c =
    let points = c.args.placed.now.points.items in
    let i = c.loop-place.i in
    let there : i < length points = omega (arith, c.loop-place.invariant.counted, c.loop-place-test.true, c.requires.places, ap length c.as_slice-place-items.ensures.value) in
    let goes : GoToTheEnd c.requires.points.0 (take (length points - i) (drop i points)) = subst (GoToTheEnd c.requires.points.0) (sym (rest_of points i (omega (arith, there)))) (goes_from c.requires.points.0 points i c.requires.points.1 there) in
    rw c.as_slice-points.ensures.value (c.requires.points.0, goes)

pub loop-place-preserved : goal.loop-place-preserved
loop-place-preserved c =
    let points = c.args.placed.now.points.items in
    let i = c.loop-place.i in
    let there = rw c.as_slice-place-items.ensures.value at c.loop-place-test.true in
    let inside : i < length points = omega (arith, c.loop-place.invariant.counted, there, c.requires.places) in
    let slice : take (length points - i) (drop i points) ≡ drop c.loop-place.place-index points = rest_of points i (omega (arith, inside)) ∙ ap (λ n. drop n points) c.loop-place.invariant.counted in
    let row = rw (c.as_slice-points.ensures.value, c.as_slice-place-items.ensures.value) at c.in_ok-push_row.ensures in
    record {
      counted = omega (arith, c.loop-place.invariant.counted);
      written = rows_more c.args.round points c.args.placed.now.places.items c.loop-place.place-index 0 _ _ _ c.requires.places there
          (row ∙ ap (λ (ps : List WindowLeast). string_bytes c.loop-place.text ++ row_text c.args.round ps (get_or c.args.placed.now.places.items c.loop-place.place-index 0)) slice) c.loop-place.invariant.written;
    }
