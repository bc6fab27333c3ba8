use Rattle.std.proofs.Common.{arith, sym}
use Rattle.mh_history.proofs.HalfLemmas.{measured_some, measured_none, wrong_units}
use Rattle.mh_history.proofs.entry.measured_between.Goals as goal

pub returns-in_default-units_of-clause-measured : goal.returns-in_default-units_of-clause-measured
returns-in_default-units_of-clause-measured c = sym (wrong_units c.args.event c.args.rest c.in-Some.reply c.in-Some.units c.requires.no_units c.in-Some.ensures.some c.in_default-units_of.ensures.none)

pub returns-in-Some-2-clause-measured : goal.returns-in-Some-2-clause-measured
returns-in-Some-2-clause-measured c =
    let read = rw c.in-Some-2.is at c.in_ok-entry.ensures.entry in
    sym (measured_some c.args.event c.args.rest c.in-Some.reply c.in-Some.units c.in-Some-2.entry c.in-Some-units_of.mutator c.in-Some-units_of.collector c.requires.no_equals c.requires.no_units c.in-Some.ensures.some (sym read) c.in-Some-units_of.ensures.some)

pub returns-in-None-clause-measured : goal.returns-in-None-clause-measured
returns-in-None-clause-measured c = grind (arith, measured_none)
