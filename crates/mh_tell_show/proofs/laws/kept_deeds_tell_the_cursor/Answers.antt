use Rattle.mh_tell_show.proofs.LeftOutLemmas.{kept-tell_the_cursor}
use Rattle.mh_tell_show.proofs.laws.kept_deeds_tell_the_cursor.Goals as goal

pub returns : goal.returns
returns c = kept-tell_the_cursor
