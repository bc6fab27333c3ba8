use Rattle.std.proofs.Common.{◌<◌, ◌≡◌, arith, ◌∙◌, ap}
use Rattle.mh_bits.proofs.PlaceLemmas.{page_within, bit_read}
use Rattle.mh_bits.proofs.place_set.PlaceSet.has.Goals as goal

pub index-requires : goal.index-requires
index-requires c = omega (arith, page_within _ _ _ c.self.view_is c.requires, c.page.ensures, c.self.inside.words.ok)

pub returns : goal.returns
returns c = rw (c.slot.ensures) (bit_read _ _ _ _ c.self.view_is c.requires (c.index.ensures ∙ ap (λ page. Rattle.std.proofs.Common.get_or c.self.inside.words.items page c.index.result.now) c.page.ensures))
