use Rattle.std.proofs.Common.{◌∙◌, sym}
use Rattle.mh_sweep.proofs.SweepLemmas.{judged-flagged, sparse-yes, sparse-no, dense-no}
use Rattle.mh_sweep.proofs.sweep.judge.Goals.{else-live-slots-via-then-live-slots+else-has_denser, else-live-slots-via-else-live-slots}
use Rattle.mh_sweep.proofs.sweep.judge.Goals as goal

pub returns-then-has_denser : goal.returns-then-has_denser
returns-then-has_denser c = c.flag.ensures ∙ judged-flagged _ _ _ _ _ c.len.ensures.slots c.requires.class c.live_in-live.ensures.count c.if-live-eq0.false
    (rw (← c.slots.ensures.value) (sparse-yes c.live_in-live.result c.slots.result _ c.if-live-slots.true (sym c.has_denser.ensures ∙ c.if-has_denser.true)))

pub returns-else-live-slots : goal.returns-else-live-slots
returns-else-live-slots c = c.unflag.ensures ∙ judged-flagged _ _ _ _ _ c.len.ensures.slots c.requires.class c.live_in-live.ensures.count c.if-live-eq0.false
    (rw (← c.slots.ensures.value) (elim c.else-live-slots.branch [
      | else-live-slots-via-then-live-slots+else-has_denser w ↦ dense-no c.live_in-live.result c.slots.result _ (sym w.has_denser.ensures ∙ w.if-has_denser.false)
      | else-live-slots-via-else-live-slots w ↦ sparse-no c.live_in-live.result c.slots.result _ w.if-live-slots.false
    ]))
