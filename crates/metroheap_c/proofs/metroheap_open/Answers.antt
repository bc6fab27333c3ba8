use Rattle.std.proofs.Common.{rules, refl}
use Rattle.mh_embed.specs.{Driving.first_driven, declared.status.Status.Status}
use Rattle.metroheap_c.specs.Calls.{NoMemory, Opened}
use Rattle.metroheap_c.proofs.CodeLemmas.{code_seen}
use Rattle.metroheap_c.proofs.metroheap_open.Goals as goal

pub returns-in_default-open : goal.returns-in_default-open
returns-in_default-open c = NoMemory (first_driven c.in-Some.config) (search rules) refl (code_seen Status.NoMemory _ c.code-in_default-open.ensures)

pub returns-in_default-new : goal.returns-in_default-new
returns-in_default-new c = NoMemory (first_driven c.in-Some.config) (search rules) refl (code_seen Status.NoMemory _ c.code-in_default-new.ensures)

pub returns : goal.returns
returns c = Opened (first_driven c.in-Some.config) (search rules) (search rules) (code_seen Status.Done _ c.code-2.ensures)
