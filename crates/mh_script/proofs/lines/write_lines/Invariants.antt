use Rattle.std.proofs.Common.{◌≡◌}
use Rattle.std.specs.String.{string_bytes}
use Rattle.mh_script.proofs.LineLemmas.{IsTold}
use Rattle.mh_script.proofs.lines.write_lines.Given as goal

abbrev pub invariant-loop-event : goal.invariant-loop-event
invariant-loop-event g l = record {
  told : IsTold (g.L.Lines.told l.form) (g.L.Lines.head l.form l.script l.fn.config) (g.L.Lines.first l.form l.fn.config) l.events l.event-index (g.L.Lines.state l.form l.kept l.machine)
      (g.W.Sink.device l.fn.sink) (g.W.Sink.device l.sink) (string_bytes l.text);
  holds : g.L.Lines.holds l.form (g.L.Lines.state l.form l.kept l.machine);
  count : l.machine.done ≡ l.event-index;
}
