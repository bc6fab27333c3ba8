use Rattle.std.proofs.Common.{◌∙◌, ◌++◌, ap, arith}
use Rattle.std.specs.String.{string_bytes}
use Rattle.mh_model.specs.Bytes.{Text}
use Rattle.mh_report.specs.Kept.{KeptTrace}
use Rattle.mh_tell_show.proofs.EventLemmas.{shown_all, shown_full, shown_more, shown_none, short_with}
use Rattle.mh_tell_show.proofs.events.push_events.Goals as goal

pub loop-event-init : goal.loop-event-init
loop-event-init c =
    let empty = ap (λ (t : KeptTrace). t.trace) c.open-trace.ensures in
    record {
      shown = shown_none _ _ _ _ _ (ap (λ (t : KeptTrace). t.trace.letters) c.open-trace.ensures);
      short = rw empty (record { short = omega arith; few = omega arith });
      count = omega arith;
    }

pub returns-then-len-room-clause-text : goal.returns-then-len-room-clause-text
returns-then-len-room-clause-text c = (shown_full c.loop-event.invariant.shown _ _ c.loop-event-test.true c.in_ok-line.ensures.text (omega (arith, c.len.ensures, c.if-len-room.true))).text

pub returns-then-len-room-clause-trace : goal.returns-then-len-room-clause-trace
returns-then-len-room-clause-trace c = (shown_full c.loop-event.invariant.shown _ _ c.loop-event-test.true c.in_ok-line.ensures.text (omega (arith, c.len.ensures, c.if-len-room.true))).letters

pub extend-requires-clause-short : goal.extend-requires-clause-short
extend-requires-clause-short c =
    short_with c.loop-event.invariant.shown c.runs_stay_within_their_events.ensures _ _ _ c.loop-event-test.true c.requires.run c.in_ok-line.ensures.units.0 c.in_ok-line.ensures.units.1

pub loop-event-preserved : goal.loop-event-preserved
loop-event-preserved c = record {
  shown =
      shown_more c.loop-event.invariant.shown _ _ _ _ _ _ _ _ _ c.loop-event-test.true c.in_ok-line.ensures.machine c.in_ok-line.ensures.left c.in_ok-line.ensures.text
      (omega (arith, c.len.ensures, c.if-len-room.false)) (omega (arith, c.len-room.ensures)) (c.in_ok-push_str.ensures.bytes ∙ ap (λ (t : Text). string_bytes c.loop-event.text ++ t) c.as_str.ensures.value) c.in_ok-line.ensures.units.0 c.in_ok-line.ensures.units.1 c.in_ok-extend.ensures.trace;
  short = c.in_ok-extend.ensures.bounded;
  count = omega (arith, c.in_ok-line.ensures.count, c.loop-event.invariant.count);
}

pub returns-clause-text : goal.returns-clause-text
returns-clause-text c = (shown_all c.loop-event.invariant.shown c.loop-event-test.false).text

pub returns-clause-trace : goal.returns-clause-trace
returns-clause-trace c = (shown_all c.loop-event.invariant.shown c.loop-event-test.false).letters
