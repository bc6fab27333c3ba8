use Rattle.std.proofs.Common.{◌∙◌, ◌++◌, ℕ, ap, decimal}
use Rattle.std.specs.String.{string_bytes}
use Rattle.mh_tell_show.proofs.TextLemmas.{places_more}
use Rattle.mh_tell_show.proofs.before.push_greys.Goals as goal

pub loop-index-preserved : goal.loop-index-preserved
loop-index-preserved c =
    places_more _ _ _ _ c.args.heap.now.collector.grey c.loop-index.index _ c.grey_at-place.ensures c.loop-index.invariant (c.in_ok-push_decimal.ensures ∙ ap (λ (n : ℕ). string_bytes c.loop-index.text ++ decimal n) c.place.view_is) c.in_ok-push_str-2.ensures.bytes
