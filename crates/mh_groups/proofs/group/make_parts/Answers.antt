use Rattle.std.proofs.{Common.{◌≡◌, length, is_some, is_none, not, sym, ap, ◌∙◌, add-one, arith}, Math.Bool.not-not}
use Rattle.mh_model.specs.Pages.{page_number, class_at}
use Rattle.mh_groups.proofs.MadeLemmas.{AreMadeSoFar, one_so_far, all_so_far, told_so_far, full_so_far, unlinked_so_far}
use Rattle.mh_groups.proofs.group.make_parts.Goals as goal

pub returns-in_default-clause-full : goal.returns-in_default-clause-full
returns-in_default-clause-full c =
    full_so_far c.args.blocks.now c.args.birth c.args.stamp c.args.parts.now c.loop-index.blocks c.loop-index.places c.loop-index.fresh c.loop-index.index c.get-part.result c.class.result c.loop-index.invariant (sym c.get-part.ensures) c.class.ensures.class (sym c.place.ensures.place ∙ c.in_default.is)

pub loop-index-preserved : goal.loop-index-preserved
loop-index-preserved c =
    let made = rw c.class.ensures.class at c.make_at.ensures in
    let fresh : c.is_none.result ≡ is_none (class_at c.loop-index.blocks (page_number c.in-Some.place)) =
    sym (not-not c.is_none.result) ∙ ap not (sym c.is_none.ensures ∙ ap is_some (c.class_at.ensures ∙ ap (class_at c.loop-index.blocks) c.page.ensures)) in
    rw (made, add-one)
    (one_so_far c.args.blocks.now c.args.birth c.args.stamp c.args.parts.now c.loop-index.blocks c.loop-index.places c.loop-index.fresh c.loop-index.index c.get-part.result c.class.result c.in-Some.place c.is_none.result c.loop-index.invariant (omega arith) (omega arith) (sym c.get-part.ensures) c.class.ensures.class (sym c.in-Some.ensures.place) c.in-Some.ensures.free fresh)

pub returns-clause-unlinked : goal.returns-clause-unlinked
returns-clause-unlinked c =
    let end : c.loop-index.index ≡ length c.args.parts.now = omega arith in
    grind (arith, unlinked_so_far, AreMadeSoFar)

pub returns-clause-made : goal.returns-clause-made
returns-clause-made c =
    let end : c.loop-index.index ≡ length c.args.parts.now = omega arith in
    grind (arith, all_so_far, AreMadeSoFar)

pub returns-clause-told : goal.returns-clause-told
returns-clause-told c = grind (arith, told_so_far, AreMadeSoFar)
