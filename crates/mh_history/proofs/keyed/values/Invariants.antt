use Rattle.mh_model.specs.Replies.{values}
use Rattle.mh_text.specs.Names.{names_shown}
use Rattle.mh_history.proofs.KeyedLemmas.{Valued}
use Rattle.mh_history.proofs.keyed.values.Given as goal

abbrev pub invariant-loop-key : goal.invariant-loop-key
invariant-loop-key l = Valued (values (names_shown l.keys) l.fn.words) l.keys l.key-index l.found.items l.value l.words
