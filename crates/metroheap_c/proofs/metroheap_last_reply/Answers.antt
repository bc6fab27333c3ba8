use Rattle.std.proofs.Common.{rules, refl}
use Rattle.metroheap_c.specs.Calls.{Open}
use Rattle.metroheap_c.proofs.CodeLemmas.{code_seen}
use Rattle.metroheap_c.proofs.metroheap_last_reply.Goals as goal

pub returns : goal.returns
returns c =
    Open c.deref.result.now c.deref.result.now c.reply-status.result (search rules) (search rules) (record { kept = refl; ends_so = c.reply-status.ensures }) (code_seen c.reply-status.result _ c.code-2.ensures)
