use Rattle.std.proofs.Common.{refl}
use Rattle.mh_script.proofs.{PromiseLemmas.promised-output, TaskLemmas.done-less}
use Rattle.mh_tell_show.proofs.RunLemmas.{shows_replies}
use Rattle.mh_tell_show.specs.Page.{ShowsReplies, page_text}
use Rattle.mh_tell_show.proofs.run.show_script.Goals as goal

pub returns : goal.returns
returns g c =
    let options = c.args.options in
    done-less (promised-output c.replies_are_promised.ensures (page_text options) (ShowsReplies options) (shows_replies options) options.rules _ _ (λ text. refl)) c.transcribe.ensures
