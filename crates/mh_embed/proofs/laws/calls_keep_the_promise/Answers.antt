use Rattle.mh_embed.proofs.PromiseLemmas.{keep_the_promise}
use Rattle.mh_embed.proofs.laws.calls_keep_the_promise.Goals as goal

pub returns : goal.returns
returns c = keep_the_promise c.events_keep_the_replay.ensures c.events_keep_what_is_recalled.ensures c.forgotten_traces_keep_their_promise.ensures
