use Rattle.mh_script.specs.Histories.{AreRecorded, history_run}
use Rattle.mh_script.proofs.{HistoryLemmas.{histories_are, legal_end, recorded_shown}, PromiseLemmas.promised-output}
use Rattle.mh_script.proofs.TaskLemmas.{done-less}
use Rattle.mh_script.proofs.history.run_history.Goals as goal

pub returns : goal.returns
returns g c =
    done-less
    (λ text ended out is.
    let promised = promised-output c.replies_are_promised.ensures (λ _. history_run) AreRecorded (λ _. recorded_shown) c.args.rules _ _ (histories_are c.args.rules) text ended out is in
    (promised, legal_end c.run_histories_are_legal.ensures c.args.rules text ended out promised.output))
    c.transcribe.ensures
