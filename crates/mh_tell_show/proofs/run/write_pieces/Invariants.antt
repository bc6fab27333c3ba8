use Rattle.std.proofs.Common.{take}
use Rattle.mh_text.specs.Devices.{Takes}
use Rattle.mh_tell_show.specs.Auxiliary.{joined_pieces}
use Rattle.mh_tell_show.proofs.run.write_pieces.Given as goal

abbrev pub invariant-loop-piece : goal.invariant-loop-piece
invariant-loop-piece g l = Takes (g.W.Sink.device l.initial.sink) (g.W.Sink.device l.sink) (joined_pieces (take l.piece-index l.pieces))
