use Rattle.mh_tell_show.proofs.LeftOutLemmas.{left_out-draws_nothing}
use Rattle.mh_tell_show.proofs.laws.left_out_deeds_draw_nothing.Goals as goal

pub returns : goal.returns
returns c = left_out-draws_nothing
