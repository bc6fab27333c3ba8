use Rattle.std.proofs.Common.{◌≡◌, drop}
use Rattle.mh_model.specs.Replies.{are_texts}
use Rattle.mh_text.specs.Names.{names_shown}
use Rattle.mh_history.proofs.parts.are_words.Given as goal

abbrev pub invariant-loop-text : goal.invariant-loop-text
invariant-loop-text l = are_texts l.words (names_shown (drop l.text-index l.texts)) ≡ are_texts l.fn.words (names_shown l.texts)
