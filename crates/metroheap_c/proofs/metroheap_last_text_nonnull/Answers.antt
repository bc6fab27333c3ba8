use Rattle.std.proofs.Common.{rules}
use Rattle.metroheap_c.specs.Calls.{Open}
use Rattle.metroheap_c.proofs.CodeLemmas.{code_seen}
use Rattle.metroheap_c.proofs.metroheap_last_text_nonnull.Goals as goal

pub returns : goal.returns
returns c =
    Open c.deref_mut.result.now c.text-status.new.self c.text-status.result (search rules) (search rules)
    (record { kept = c.text-status.ensures.kept; ends_so = c.text-status.ensures.ends })
    (code_seen c.text-status.result _ c.code-2.ensures)
