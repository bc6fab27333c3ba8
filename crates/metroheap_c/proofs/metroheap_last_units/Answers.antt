use Rattle.std.proofs.Common.{rules, refl}
use Rattle.metroheap_c.specs.Calls.{Open}
use Rattle.metroheap_c.proofs.CodeLemmas.{code_seen}
use Rattle.metroheap_c.proofs.metroheap_last_units.Goals as goal

pub returns : goal.returns
returns c =
    Open c.deref.result.now c.deref.result.now c.units-status.result (search rules) (search rules) (record { kept = refl; ends_so = c.units-status.ensures }) (code_seen c.units-status.result _ c.code-2.ensures)
