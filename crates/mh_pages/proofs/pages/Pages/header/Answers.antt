use Rattle.std.proofs.Common.{arith}
use Rattle.mh_pages.proofs.KeptLemmas.{header_words}
use Rattle.mh_pages.proofs.pages.Pages.header.Goals as goal

pub word_from-requires-clause-within : goal.word_from-requires-clause-within
word_from-requires-clause-within c = grind (arith, header_words)

pub word_from-requires-2-clause-within : goal.word_from-requires-2-clause-within
word_from-requires-2-clause-within c = grind (arith, header_words)

pub word_from-requires-3-clause-within : goal.word_from-requires-3-clause-within
word_from-requires-3-clause-within c = grind (arith, header_words)

pub word_from-requires-4-clause-within : goal.word_from-requires-4-clause-within
word_from-requires-4-clause-within c = grind (arith, header_words)
