use Rattle.mh_script.proofs.TaskLemmas.{done-with}
use Rattle.mh_race_text.proofs.TaskLemmas.{race_long}
use Rattle.mh_race_text.proofs.race.race_script.Goals as goal

pub returns : goal.returns
returns g c = done-with (λ text rest ended out long. race_long text rest long ended out) _ _ c.as_slice.ensures.value c.in_ok-text.ensures c.write_race.ensures
