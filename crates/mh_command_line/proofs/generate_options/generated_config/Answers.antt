use Rattle.std.proofs.Common.{inr, refl, sym}
use Rattle.mh_command_line.proofs.generate_options.generated_config.Goals as goal

pub returns-in-Some-clause-config : goal.returns-in-Some-clause-config
returns-in-Some-clause-config c =
    sym (rw (c.unwrap_or-trigger.ensures, c.unwrap_or-pages.ensures, c.unwrap_or-quantum.ensures, c.unwrap_or-every.ensures, c.number.ensures.value, c.number-2.ensures.value, c.number-3.ensures.value, c.number-4.ensures.value) at c.in-Some.ensures.value)

pub returns-in-None-clause-fault : goal.returns-in-None-clause-fault
returns-in-None-clause-fault c =
    let none = rw (c.unwrap_or-trigger.ensures, c.unwrap_or-pages.ensures, c.unwrap_or-quantum.ensures, c.unwrap_or-every.ensures, c.number.ensures.value, c.number-2.ensures.value, c.number-3.ensures.value, c.number-4.ensures.value) at c.in-None.ensures.value in
    inr (refl, (refl, sym none))
