use Rattle.mh_text.proofs.PieceLemmas.{empty_left}
use Rattle.mh_text.proofs.pieces.Lines.is_empty.Goals as goal

pub returns : goal.returns
returns c = rw (← c.self.view_is, c.is_empty.ensures) (empty_left c.self.inside.number c.self.inside.text.now)
