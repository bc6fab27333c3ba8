use Rattle.mh_window_curve.proofs.PartLemmas.{pushed_four}
use Rattle.mh_window_curve.proofs.picture.push_labels.Goals as goal

pub returns : goal.returns
returns c =
    pushed_four _ _ _ _ _ _ _ _ _ _ c.in_ok-push_parts.ensures c.in_ok-push_str.ensures.bytes c.in_ok-push_str-2.ensures.bytes c.legend.ensures c.in_ok-push_str-3.ensures.bytes
