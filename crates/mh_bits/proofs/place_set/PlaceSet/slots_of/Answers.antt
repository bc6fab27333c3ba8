use Rattle.std.proofs.Common.{arith}
use Rattle.mh_bits.proofs.PlaceLemmas.{word_within, bits_there}
use Rattle.mh_bits.proofs.place_set.PlaceSet.slots_of.Goals as goal

pub index-requires : goal.index-requires
index-requires c = omega (arith, word_within _ _ _ c.self.view_is c.requires, c.self.inside.words.ok)

pub returns : goal.returns
returns c = λ slot small. bits_there _ _ _ c.self.view_is c.requires _ slot c.index.ensures small
