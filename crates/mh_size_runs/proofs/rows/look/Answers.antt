use Rattle.std.proofs.Common.{sym, ◌∙◌}
use Rattle.mh_size_runs.proofs.FullLemmas.{never-full}
use Rattle.mh_size_runs.proofs.rows.look.Goals as goal

pub returns-in_ok-seen_of-in-None : goal.returns-in_ok-seen_of-in-None
returns-in_ok-seen_of-in-None g c =
    let none = sym c.in_ok-event.ensures ∙ c.in-None.is in
    (none, c.in_ok-seen_of-in-None.ensures.seen, λ roomed. c.in_ok-seen_of-in-None.ensures.law roomed (never-full c.args.heap c.args.events.now none))
