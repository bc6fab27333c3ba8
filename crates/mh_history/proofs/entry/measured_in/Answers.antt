use Rattle.std.proofs.Common.{ap, ◌∙◌}
use Rattle.mh_history.specs.Auxiliary.{all_lack}
use Rattle.mh_history.proofs.HalfLemmas.{lacks_equals}
use Rattle.mh_history.proofs.entry.measured_in.Goals as goal

pub read_measured-requires-clause-no_equals : goal.read_measured-requires-clause-no_equals
read_measured-requires-clause-no_equals c = ap (all_lack 61) c.new.ensures ∙ lacks_equals c.args.line.now c.in-Some.event.now c.in-Some.rest.now c.in-Some.ensures
