use Rattle.std.proofs.Common.{rules}
use Rattle.metroheap_c.specs.Calls.{Open}
use Rattle.metroheap_c.proofs.CodeLemmas.{code_seen}
use Rattle.metroheap_c.proofs.metroheap_see_report.Goals as goal

pub returns : goal.returns
returns c =
    Open c.deref_mut.result.now c.see_report-status.new.self c.see_report-status.result (search rules) (search rules) (record { kept = c.see_report-status.ensures.kept; ends_so = c.see_report-status.ensures.ends }) (code_seen c.see_report-status.result _ c.code-2.ensures)
