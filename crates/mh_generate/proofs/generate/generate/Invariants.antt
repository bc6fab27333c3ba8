use Rattle.std.proofs.Common.{◌≡◌, ◌≤◌}
use Rattle.std.specs.String.{string_bytes}
use Rattle.mh_heap.specs.PlainHeap.{world_of}
use Rattle.mh_model.specs.World.{births}
use Rattle.mh_generate.proofs.WritingLemmas.{HasWritten, most_of}
use Rattle.mh_generate.proofs.generate.generate.Given as goal

abbrev pub invariant-loop-done : goal.invariant-loop-done
invariant-loop-done g l = record {
  written : HasWritten l.options l.done l.chooser.names.named (world_of l.chooser.along.heap) (g.W.Sink.device l.fn.sink) (g.W.Sink.device l.sink) (string_bytes l.text);
  most : l.chooser.names.most ≡ most_of l.options;
  few : births (world_of l.chooser.along.heap) ≤ l.done;
}
