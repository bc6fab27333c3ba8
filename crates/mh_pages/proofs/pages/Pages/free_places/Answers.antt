use Rattle.std.proofs.Common.{arith}
use Rattle.mh_pages.proofs.FreePlaceLemmas.{free_places-more}
use Rattle.mh_pages.proofs.pages.Pages.free_places.Goals as goal

pub loop-page-preserved : goal.loop-page-preserved
loop-page-preserved c = grind (arith, free_places-more)
