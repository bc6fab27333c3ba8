use Rattle.std.proofs.Common.{rules}
use Rattle.metroheap_c.specs.Calls.{Open}
use Rattle.metroheap_c.proofs.CodeLemmas.{code_seen}
use Rattle.metroheap_c.proofs.metroheap_step.Goals as goal

pub returns : goal.returns
returns c = Open c.deref_mut.result.now c.step-status.new.self c.step-status.result (search rules) (search rules) c.step-status.ensures (code_seen c.step-status.result _ c.code-2.ensures)
