use Rattle.std.proofs.Common.{rules}
use Rattle.metroheap_c.specs.Calls.{Open}
use Rattle.metroheap_c.proofs.CodeLemmas.{code_seen}
use Rattle.metroheap_c.proofs.metroheap_reserve.Goals as goal

pub returns : goal.returns
returns c = Open c.deref_mut.result.now c.reserve-status.new.self c.reserve-status.result (search rules) (search rules) c.reserve-status.ensures (code_seen c.reserve-status.result _ c.code-2.ensures)
