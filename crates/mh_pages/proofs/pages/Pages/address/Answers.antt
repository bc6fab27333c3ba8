use Rattle.std.proofs.Common.{arith}
use Rattle.mh_pages.proofs.KeptLemmas.{block_of, size_used, address_shown}
use Rattle.mh_pages.proofs.pages.Pages.address.Goals as goal

pub start_of-requires-clause-page : goal.start_of-requires-clause-page
start_of-requires-clause-page c = (block_of _ _ _ _ _ c.self.invariant _ _ c.self.view_is c.requires).inside

pub start_of-requires-clause-class : goal.start_of-requires-clause-class
start_of-requires-clause-class c = (size_used _ _ _ _ _ c.self.invariant _ (block_of _ _ _ _ _ c.self.invariant _ _ c.self.view_is c.requires).used).most

pub returns : goal.returns
returns c = grind (arith, address_shown, block_of)
