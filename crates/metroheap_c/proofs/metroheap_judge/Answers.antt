use Rattle.std.proofs.Common.{rules}
use Rattle.metroheap_c.specs.Calls.{Open}
use Rattle.metroheap_c.proofs.CodeLemmas.{code_seen}
use Rattle.metroheap_c.proofs.metroheap_judge.Goals as goal

pub returns : goal.returns
returns c = Open c.deref_mut.result.now c.judge-status.new.self c.judge-status.result (search rules) (search rules) c.judge-status.ensures (code_seen c.judge-status.result _ c.code-2.ensures)
