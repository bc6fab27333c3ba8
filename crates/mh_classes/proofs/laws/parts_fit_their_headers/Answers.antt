use Rattle.mh_classes.proofs.PartLemmas.{part_is}
use Rattle.mh_classes.proofs.laws.parts_fit_their_headers.Goals as goal

pub returns : goal.returns
returns c = λ r n i part most e. (part_is r n i part most e).fits
