use Rattle.std.proofs.Common.{◌≡◌, ◌++◌, drop}
use Rattle.std.specs.String.{string_bytes}
use Rattle.mh_window_curve.specs.Texts.{parts_from, parts_text}
use Rattle.mh_window_curve.proofs.parts.push_parts.Given as goal

abbrev pub invariant-loop-point : goal.invariant-loop-point
invariant-loop-point l = record {
  counted : l.i ≡ l.point-index;
  written : string_bytes l.text ++ parts_from l.part l.count l.point-index (drop l.point-index l.points) ≡ string_bytes l.initial.text ++ parts_text l.part l.points;
}
