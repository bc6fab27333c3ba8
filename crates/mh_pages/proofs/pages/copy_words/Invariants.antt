use Rattle.mh_pages.specs.Auxiliary.{IsCopied}
use Rattle.mh_pages.proofs.pages.copy_words.Given as goal

abbrev pub invariant-loop-index : goal.invariant-loop-index
invariant-loop-index l = IsCopied l.fn.words l.words l.source l.first l.index
