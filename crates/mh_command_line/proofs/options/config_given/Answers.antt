use Rattle.std.proofs.{Common.sym, lemmas.Bool.false≢true}
use Rattle.mh_command_line.proofs.NumberLemmas.{lies_outside, makes}
use Rattle.mh_command_line.proofs.options.config_given.Goals as goal

pub returns-in-Some-clause-config : goal.returns-in-Some-clause-config
returns-in-Some-clause-config c =
    makes c.args.rules _ _ _ _ _ _ c.in_ok-pages.ensures.number c.in_ok-quantum.ensures.number c.in_ok-trigger.ensures.number c.in_ok-every.ensures.number (sym c.in-Some.ensures.value)

pub returns-in-None-clause-fault : goal.returns-in-None-clause-fault
returns-in-None-clause-fault c =
    lies_outside _ _ _ _ _ _ c.in_ok-pages.ensures.number c.in_ok-quantum.ensures.number c.in_ok-trigger.ensures.number c.in_ok-every.ensures.number
    (λ is. false≢true (c.in-None.ensures.within.1 is)) c.outside.ensures
