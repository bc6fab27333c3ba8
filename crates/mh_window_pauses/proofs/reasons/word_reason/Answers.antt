use Rattle.std.proofs.Common.{sym}
use Rattle.mh_model.proofs.TextLemmas.{text_is}
use Rattle.mh_window_pauses.proofs.reasons.word_reason.Goals as goal

pub returns-then-is_word : goal.returns-then-is_word
returns-then-is_word c = (c.if-not-begun.true, text_is _ _ (sym c.if-is_word.ensures))
