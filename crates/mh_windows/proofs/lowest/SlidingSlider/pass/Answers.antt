use Rattle.std.proofs.Common.{◌-◌, arith}
use Rattle.mh_windows.proofs.LowestLemmas.{pass_higher, pass_lower, slides_alike}
use Rattle.mh_windows.proofs.lowest.SlidingSlider.pass.Goals.{then-self, else-self}
use Rattle.mh_windows.proofs.lowest.SlidingSlider.pass.Goals as goal

pub returns-clause-slides : goal.returns-clause-slides
returns-clause-slides c = grind (arith, slides_alike, then-self, pass_lower, else-self, pass_higher)
