use Rattle.std.proofs.Common.{rules}
use Rattle.metroheap_c.specs.Calls.{Open}
use Rattle.metroheap_c.proofs.CodeLemmas.{code_seen}
use Rattle.metroheap_c.proofs.metroheap_line_nonnull.Goals as goal

pub returns : goal.returns
returns c = Open c.deref_mut.result.now c.answer-status.new.self c.answer-status.result (search rules) (search rules) c.answer-status.ensures (code_seen c.answer-status.result _ c.code-2.ensures)
