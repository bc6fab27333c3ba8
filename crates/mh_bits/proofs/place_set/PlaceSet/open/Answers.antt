use Rattle.mh_bits.proofs.PlaceLemmas.{none_there}
use Rattle.mh_bits.proofs.place_set.PlaceSet.open.Goals as goal

pub returns : goal.returns
returns c = rw (c.in_ok-from_elem.ensures.items_if_clones_equal (λ y e. e)) (none_there c.args.pages)
