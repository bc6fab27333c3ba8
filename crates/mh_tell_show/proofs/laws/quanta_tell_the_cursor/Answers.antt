use Rattle.mh_tell_show.proofs.CursorLemmas.{quanta-stand}
use Rattle.mh_tell_show.proofs.laws.quanta_tell_the_cursor.Goals as goal

pub returns : goal.returns
returns c = quanta-stand
