use Rattle.mh_model.proofs.ConfigLemmas.{configured-within}
use Rattle.mh_size_runs.proofs.tried.heap_with.Goals as goal

pub returns : goal.returns
returns c =
    let config = c.args.config.now in
    configured-within config.rules c.args.pages config.quantum c.args.trigger config.every _
