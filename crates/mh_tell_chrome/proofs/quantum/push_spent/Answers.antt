use Rattle.std.specs.Prelude.{codes, decimal}
use Rattle.mh_model.specs.Replies.{phase_word}
use Rattle.mh_tell_steps.specs.Lines.{quoted}
use Rattle.mh_tell_chrome.specs.{Deeds.quanta, TraceEvents.placed_text}
use Rattle.mh_tell_chrome.proofs.TextLemmas.{quantum_written}
use Rattle.mh_tell_chrome.proofs.quantum.push_spent.Goals as goal

pub returns : goal.returns
returns c =
    quantum_written _ _ _ _ _ _ _ (placed_text (codes "{\"ph\":\"B\"") c.args.began quanta) (decimal c.args.number) (decimal c.args.spent) (quoted (phase_word c.args.phase)) c.in_ok-push_placed.ensures c.in_ok-push_str.ensures.bytes
    (rw c.from.ensures at c.in_ok-push_decimal.ensures) (rw c.from-2.ensures at c.in_ok-push_number.ensures) (rw c.phase_word.ensures at c.in_ok-push_word.ensures) c.in_ok-push_str-2.ensures.bytes
