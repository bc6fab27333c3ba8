use Rattle.metroheap_c.proofs.CodeLemmas.{code_seen}
use Rattle.metroheap_c.proofs.metroheap_reason_nonnull.Goals as goal

pub returns : goal.returns
returns c = record { status = c.reason.result; ends_so = rw (← c.without_newline.ensures) c.reason.ensures; is = code_seen c.reason.result _ c.code.ensures }
