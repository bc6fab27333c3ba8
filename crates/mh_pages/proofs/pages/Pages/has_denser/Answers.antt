use Rattle.std.proofs.Common.{arith}
use Rattle.mh_pages.proofs.LowerLemmas.{denser-told}
use Rattle.mh_pages.proofs.pages.Pages.has_denser.Goals as goal

pub returns : goal.returns
returns c = grind (arith, denser-told)
