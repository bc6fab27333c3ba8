use Rattle.mh_script.proofs.TaskLemmas.{done-with}
use Rattle.mh_script.proofs.task.done_with.Goals as goal

pub returns : goal.returns
returns g c = done-with (c.most_bytes.ensures.long _ _) _ _ c.as_slice.ensures.value (rw c.most_bytes.ensures.most at c.in_ok-text.ensures) c.perform.ensures
