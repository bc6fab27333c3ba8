use Rattle.std.proofs.Common.{arith}
use Rattle.mh_pages.proofs.{ShownLemmas.page_at-shown, FreePlaceLemmas.{free_in-free, free_in-other, free_in-class}}
use Rattle.mh_pages.proofs.KeptLemmas.{inside_of}
use Rattle.mh_pages.proofs.pages.Pages.free_in.Goals as goal

pub read-head-requires-clause-within : goal.read-head-requires-clause-within
read-head-requires-clause-within c = inside_of _ _ _ _ _ c.self.invariant _ _ c.self.view_is c.requires

pub returns-then-head-eq0-clause-count : goal.returns-then-head-eq0-clause-count
returns-then-head-eq0-clause-count c = grind (arith, page_at-shown, inside_of, free_in-free)

pub returns-then-head-size-clause-count : goal.returns-then-head-size-clause-count
returns-then-head-size-clause-count c = grind (arith, page_at-shown, inside_of, free_in-other)

pub returns-clause-count : goal.returns-clause-count
returns-clause-count c = grind (arith, page_at-shown, inside_of, free_in-class)
