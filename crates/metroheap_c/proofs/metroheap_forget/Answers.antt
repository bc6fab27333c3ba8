use Rattle.std.proofs.Common.{rules}
use Rattle.metroheap_c.specs.Calls.{Open}
use Rattle.metroheap_c.proofs.CodeLemmas.{code_seen}
use Rattle.metroheap_c.proofs.metroheap_forget.Goals as goal

pub returns : goal.returns
returns c = Open c.deref_mut.result.now c.forget-status.new.self c.forget-status.result (search rules) (search rules) c.forget-status.ensures (code_seen c.forget-status.result _ c.code-2.ensures)
