use Rattle.std.proofs.Common.{◌≡◌, ◌++◌, drop}
use Rattle.std.specs.String.{string_bytes}
use Rattle.mh_window_curve.specs.PauseTexts.{rows_text}
use Rattle.mh_window_curve.proofs.pause_table.push_rows.Given as goal

abbrev pub invariant-loop-place : goal.invariant-loop-place
invariant-loop-place l = record {
  counted : l.i ≡ l.place-index;
  written : string_bytes l.text ++ rows_text l.round (drop l.place-index l.placed.points.items) (drop l.place-index l.placed.places.items)
      ≡ string_bytes l.initial.text ++ rows_text l.round l.placed.points.items l.placed.places.items;
}
