use Rattle.std.proofs.Common.{◌∙◌, ◌++◌, ap, refl, arith}
use Rattle.mh_model.specs.{Bytes.{Text, line_text}, World.births}
use Rattle.mh_generate.specs.Auxiliary.{config_line}
use Rattle.mh_generate.proofs.WritingLemmas.{all_written, begun_written, fails_written, more_written, none_written, nothing_asked, written_on}
use Rattle.mh_generate.proofs.generate.generate.Goals as goal

pub returns-in_err-push_config_line : goal.returns-in_err-push_config_line
returns-in_err-push_config_line g c = nothing_asked _ _ _ c.from_residual.ensures.1

pub loop-done-init : goal.loop-done-init
loop-done-init g c = record {
  written = none_written _ _ _ _ _ c.new-chooser.ensures.none c.new-chooser.ensures.world (c.in_ok-push_config_line.ensures ∙ ap (λ (t : Text). t ++ line_text (config_line c.args.options.now.config)) c.new-text.ensures.bytes);
  most = c.new-chooser.ensures.most;
  few = omega (arith, ap births c.new-chooser.ensures.world);
}

pub returns-in_err-event : goal.returns-in_err-event
returns-in_err-event g c = begun_written c.loop-done.invariant.written (omega arith) _ c.from_residual-in_err-event.ensures.1

pub returns-in_err-push_event_line : goal.returns-in_err-push_event_line
returns-in_err-push_event_line g c = begun_written c.loop-done.invariant.written (omega arith) _ c.from_residual-in_err-push_event_line.ensures.1

pub returns-in_err-flush_full : goal.returns-in_err-flush_full
returns-in_err-flush_full g c =
    let at = c.loop-done.invariant in
    let said = c.in_ok-event.ensures in
    let more = more_written at.written c.in_ok-event.event _ _ _ _ _ refl said.known said.next at.most said.below said.timed said.writes said.taken said.named said.world c.next.new.self.along.stays c.in_ok-push_event_line.ensures in
    fails_written more (omega (arith, c.loop-done-test.true)) _ _ c.from_residual-in_err-flush_full.ensures.1 c.in_err-flush_full.ensures.failed

pub loop-done-preserved : goal.loop-done-preserved
loop-done-preserved g c =
    let at = c.loop-done.invariant in
    let said = c.in_ok-event.ensures in
    let more = more_written at.written c.in_ok-event.event _ _ _ _ _ refl said.known said.next at.most said.below said.timed said.writes said.taken said.named said.world c.next.new.self.along.stays c.in_ok-push_event_line.ensures in
    record {
      written = written_on more _ _ c.in_ok-flush_full.ensures.kept;
      most = c.next.ensures.most ∙ at.most;
      few = omega (arith, at.few, c.next.ensures.few);
    }

pub returns-in_err-flush : goal.returns-in_err-flush
returns-in_err-flush g c = fails_written c.loop-done.invariant.written (omega arith) _ _ c.from_residual-in_err-flush.ensures.1 c.in_err-flush.ensures.written

pub returns : goal.returns
returns g c = all_written c.loop-done.invariant.written _ (omega arith) c.in_ok-flush.ensures.written
