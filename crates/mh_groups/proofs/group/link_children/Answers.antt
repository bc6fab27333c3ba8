use Rattle.std.proofs.{Common.{◌≡◌, ◌<◌, IsSome, length, get_or, sym, subst, add-one, arith}, lemmas.List.get_or_read}
use Rattle.mh_model.specs.Pages.{block_at}
use Rattle.mh_groups.proofs.LinkLemmas.{no_child, child_within, child_there, one_child}
use Rattle.mh_groups.proofs.group.link_children.Goals as goal

pub loop-index-init : goal.loop-index-init
loop-index-init c = no_child c.args.blocks.now c.args.place c.args.children.now c.requires.there c.requires.count

pub store_ref-requires-clause-there : goal.store_ref-requires-clause-there
store_ref-requires-clause-there c = child_within c.args.blocks.now c.args.place c.args.children.now c.requires.there c.requires.count c.loop-index.blocks c.loop-index.index c.loop-index.invariant (omega arith)

pub store_ref-requires-clause-leads : goal.store_ref-requires-clause-leads
store_ref-requires-clause-leads c =
    let below : c.loop-index.index < length c.args.children.now = omega arith in
    let child : c.index-children-index.result ≡ get_or c.args.children.now c.loop-index.index 0 = get_or_read _ _ _ below c.index-children-index.is 0 in
    subst (λ q. IsSome (block_at c.loop-index.blocks q)) (sym child) (child_there c.args.blocks.now c.args.place c.args.children.now c.requires.there c.requires.count c.loop-index.blocks c.loop-index.index _ c.loop-index.invariant (c.requires.children c.loop-index.index below))

pub loop-index-preserved : goal.loop-index-preserved
loop-index-preserved c =
    let below : c.loop-index.index < length c.args.children.now = omega arith in
    let child : c.index-children-index.result ≡ get_or c.args.children.now c.loop-index.index 0 = get_or_read _ _ _ below c.index-children-index.is 0 in
    rw (c.store_ref.ensures, child, add-one) (one_child c.args.blocks.now c.args.place c.args.children.now c.requires.there c.requires.count c.loop-index.blocks c.loop-index.index c.loop-index.invariant below)
