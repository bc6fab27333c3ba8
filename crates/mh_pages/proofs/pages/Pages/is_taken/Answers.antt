use Rattle.std.proofs.{Common.arith, lemmas.Bool.lt-leb}
use Rattle.mh_pages.proofs.{ShownLemmas.{not_taken, bit_told}, WriteLemmas.{block_fits, fits_slot}}
use Rattle.mh_pages.proofs.pages.Pages.is_taken.Goals as goal

pub returns-then-page-len : goal.returns-then-page-len
returns-then-page-len c = rw (← c.self.view_is) (not_taken _ _ c.self.inside.words _ (λ is. absurd (omega (arith, is.inside, c.page-page.ensures, c.if-page-len.true, c.len.ensures))))

pub returns-then-head-eq0 : goal.returns-then-head-eq0
returns-then-head-eq0 c = grind (arith, not_taken)

pub returns-then-slot-size-le-PAGE_WORDS : goal.returns-then-slot-size-le-PAGE_WORDS
returns-then-slot-size-le-PAGE_WORDS c = grind (arith, bit_told, fits_slot)

pub returns-else-slot-size-le-PAGE_WORDS : goal.returns-else-slot-size-le-PAGE_WORDS
returns-else-slot-size-le-PAGE_WORDS c = grind (arith, lt-leb, not_taken, block_fits)
