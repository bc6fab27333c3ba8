use Rattle.std.proofs.Common.{◌≡◌, ◌++◌, length, option_map}
use Rattle.mh_model.specs.Replies.{Ready, items_from}
use Rattle.mh_history.proofs.dump.items_of.Given as goal

abbrev pub invariant-loop-word : goal.invariant-loop-word
invariant-loop-word l = option_map (λ more. l.items.items ++ more) (items_from Ready l.words) ≡ items_from Ready l.fn.words

abbrev pub decreases-loop-word : goal.decreases-loop-word
decreases-loop-word l = length l.words
