use Rattle.mh_script.proofs.{RunLemmas.transcript-long, TaskLemmas.done-with}
use Rattle.mh_script.proofs.transcript.transcribe.Goals as goal

pub returns : goal.returns
returns g c = done-with (transcript-long _ _ _) _ _ c.as_slice.ensures.value c.in_ok-text.ensures c.write_transcript.ensures
