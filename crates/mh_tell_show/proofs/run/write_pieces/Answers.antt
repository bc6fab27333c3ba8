use Rattle.std.proofs.lemmas.List.{take_more}
use Rattle.mh_tell_show.proofs.PieceLemmas.{pieces-fail, pieces-more}
use Rattle.mh_tell_show.proofs.run.write_pieces.Goals as goal

pub returns-in_default : goal.returns-in_default
returns-in_default g c = pieces-fail _ _ _ (take_more _ _ _ c.loop-piece-test.true) c.loop-piece.invariant c.in_default.ensures

pub loop-piece-preserved : goal.loop-piece-preserved
loop-piece-preserved g c = pieces-more _ _ _ (take_more _ _ _ c.loop-piece-test.true) c.loop-piece.invariant c.in-Ok.ensures
