use Rattle.mh_bits.proofs.PlaceLemmas.{none_left}
use Rattle.mh_bits.proofs.place_set.PlaceSet.clear.Goals as goal

pub returns : goal.returns
returns c = rw (c.fill.ensures.items (λ y e. e)) (none_left _ _ _ c.self.view_is c.self.inside.words.ok.0)
