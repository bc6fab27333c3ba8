use Rattle.std.proofs.{Common.{◌≡◌, ◌<◌, length, get_or, take, sym, add-one, arith}, lemmas.List.get_or_read}
use Rattle.mh_groups.specs.Auxiliary.{placed_deeds}
use Rattle.mh_deeds.proofs.ToldLemmas.{told-then}
use Rattle.mh_groups.proofs.TellLemmas.{deeds-last, page-inside}
use Rattle.mh_groups.proofs.group.tell_parts.Goals as goal

pub tier_at-tier-requires : goal.tier_at-tier-requires
tier_at-tier-requires g c = grind (arith, get_or_read, page-inside)

pub loop-index-preserved : goal.loop-index-preserved
loop-index-preserved g c =
    let within : c.loop-index.index < length c.args.places.now = omega arith in
    let place : c.index-places-index.result ≡ get_or c.args.places.now c.loop-index.index 0 = get_or_read _ _ _ within c.index-places-index.is 0 in
    let told = rw (c.tier_at-tier.ensures, place) at c.tell_part.ensures in
    rw (add-one, deeds-last c.args.parts.now c.args.blocks.now c.args.birth c.args.places.now c.args.fresh.now 0 c.loop-index.index c.loop-index.index c.get.result (sym c.get.ensures) (omega arith))
    (told-then g.L.Log.has c.args.log.now c.loop-index.log c.tell_part.new.log (placed_deeds c.args.blocks.now c.args.birth c.args.places.now c.args.fresh.now 0 (take c.loop-index.index c.args.parts.now)) _ c.loop-index.invariant told)
