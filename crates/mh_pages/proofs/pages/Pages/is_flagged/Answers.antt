use Rattle.std.proofs.Common.{arith}
use Rattle.mh_pages.proofs.KeptLemmas.{inside_of, flag_shown}
use Rattle.mh_pages.proofs.pages.Pages.is_flagged.Goals as goal

pub read-requires-clause-within : goal.read-requires-clause-within
read-requires-clause-within c = inside_of _ _ _ _ _ c.self.invariant _ _ c.self.view_is c.requires

pub returns : goal.returns
returns c = grind (arith, flag_shown, inside_of)
