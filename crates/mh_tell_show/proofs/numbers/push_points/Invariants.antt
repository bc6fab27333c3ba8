use Rattle.std.proofs.Common.{◌≡◌, ◌++◌, ◌∷◌, codes, flat_map, take}
use Rattle.std.specs.String.{string_bytes}
use Rattle.mh_tell_show.specs.{Page.point_row, Rows.row_text}
use Rattle.mh_tell_show.proofs.numbers.push_points.Given as goal

abbrev pub invariant-loop-point : goal.invariant-loop-point
invariant-loop-point l = string_bytes l.text ≡ string_bytes l.fn.text ++ 91 ∷ flat_map (λ point. row_text (point_row point) ++ codes ",") (take l.point-index l.points)
