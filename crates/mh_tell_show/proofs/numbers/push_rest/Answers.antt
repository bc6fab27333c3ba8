use Rattle.std.proofs.Common.{◌∙◌, ◌++◌, List, ap}
use Rattle.std.specs.String.{string_bytes}
use Rattle.mh_window_curve.specs.declared.point.CurvePoint.{CurvePoint}
use Rattle.mh_tell_show.specs.{Page.point_row, Rows.{listed, row_text}}
use Rattle.mh_tell_show.proofs.TextLemmas.{three}
use Rattle.mh_tell_show.proofs.numbers.push_rest.Goals as goal

pub returns : goal.returns
returns c =
    three _ _ _ _ _ _ _ c.in_ok-push_str.ensures.bytes
    (c.in_ok-push_points.ensures ∙ ap (λ (points : List CurvePoint). string_bytes c.push_str.new.self ++ listed (λ point. row_text (point_row point)) points) (c.as_slice.ensures.value ∙ c.in_ok-points.ensures.points))
    c.in_ok-push_str-2.ensures.bytes
