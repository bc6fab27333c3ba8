use Rattle.std.proofs.Common.{rules}
use Rattle.metroheap_c.specs.Calls.{Open}
use Rattle.metroheap_c.proofs.CodeLemmas.{code_seen}
use Rattle.metroheap_c.proofs.metroheap_tell.Goals as goal

pub returns : goal.returns
returns c = Open c.deref_mut.result.now c.tell-status.new.self c.tell-status.result (search rules) (search rules) c.tell-status.ensures (code_seen c.tell-status.result _ c.code-2.ensures)
