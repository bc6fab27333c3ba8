use Rattle.std.proofs.Common.{refl}
use Rattle.mh_script.proofs.{PromiseLemmas.promised-output, TaskLemmas.done-less}
use Rattle.mh_tell_steps.proofs.EventLemmas.{tells_replies}
use Rattle.mh_tell_steps.specs.Steps.{TellsReplies, told_text}
use Rattle.mh_tell_steps.proofs.run.tell_script.Goals as goal

pub returns : goal.returns
returns g c =
    let steps = c.args.steps in
    done-less (promised-output c.replies_are_promised.ensures (told_text steps) (TellsReplies steps) (tells_replies steps) c.args.rules _ _ (λ text. refl)) c.transcribe.ensures
