use Rattle.std.proofs.Common.{refl}
use Rattle.mh_script.proofs.{PromiseLemmas.promised-output, TaskLemmas.done-less}
use Rattle.mh_tell_chrome.proofs.SceneLemmas.{draws_replies}
use Rattle.mh_tell_chrome.specs.Runs.{DrawsReplies, chrome_text}
use Rattle.mh_tell_chrome.proofs.run.chrome_script.Goals as goal

pub returns : goal.returns
returns g c =
    let options = c.args.options in
    done-less (promised-output c.replies_are_promised.ensures (chrome_text options) (DrawsReplies options) (draws_replies options) options.rules _ _ (λ text. refl)) c.transcribe.ensures
