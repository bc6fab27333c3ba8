use Rattle.std.proofs.Common.{sym}
use Rattle.mh_history.proofs.HalfLemmas.{done_some, done_wrong}
use Rattle.mh_history.proofs.entry.measured_done.Goals as goal

pub returns-in_default : goal.returns-in_default
returns-in_default c = sym (done_wrong c.args.event c.args.units c.requires.no_units c.in_default.ensures.none)

pub returns : goal.returns
returns c = sym (done_some c.args.event c.args.units c.in_ok-entry.entry c.in-Some.mutator c.in-Some.collector c.requires.no_equals c.requires.no_units (sym c.in_ok-entry.ensures) c.in-Some.ensures.some)
