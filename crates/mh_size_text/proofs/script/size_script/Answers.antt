use Rattle.mh_script.proofs.TaskLemmas.{done-with}
use Rattle.mh_size_text.proofs.SizingLemmas.{sized-long}
use Rattle.mh_size_text.proofs.script.size_script.Goals as goal

pub returns : goal.returns
returns g c = done-with (λ text rest ended out long is. sized-long c.args.options.now text rest ended out long is) _ _ c.as_slice.ensures.value c.in_ok-text.ensures c.write_sizes.ensures
