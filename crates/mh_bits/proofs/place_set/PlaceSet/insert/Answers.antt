use Rattle.std.proofs.Common.{◌<◌, ◌≡◌, arith, ◌∙◌, ap}
use Rattle.mh_bits.proofs.PlaceLemmas.{page_within, bit_inserted}
use Rattle.mh_bits.proofs.place_set.PlaceSet.insert.Goals as goal

pub index_mut-requires : goal.index_mut-requires
index_mut-requires c = omega (arith, page_within _ _ _ c.self.view_is c.requires, c.page.ensures, c.self.inside.words.ok)

pub returns : goal.returns
returns c = rw (c.slot.ensures, c.page.ensures) (bit_inserted _ _ _ _ c.self.view_is c.requires (c.index_mut.ensures.value ∙ ap (λ page. Rattle.std.proofs.Common.get_or c.self.inside.words.items page c.index_mut.result.now) c.page.ensures))
