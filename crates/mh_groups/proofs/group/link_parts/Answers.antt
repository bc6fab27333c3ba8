use Rattle.std.proofs.{Common.{◌≡◌, ◌+◌, ◌-◌, length, get_or, None, sym, ◌∙◌, add-one, arith}, lemmas.List.get_or_read}
use Rattle.mh_groups.proofs.LinkLemmas.{none_linked, children_count, children_linked, rest_linked}
use Rattle.mh_groups.proofs.group.link_parts.Goals as goal

pub loop-index-init : goal.loop-index-init
loop-index-init c = none_linked c.args.blocks.now c.args.parts.now c.args.places.now c.requires.unlinked

pub link_children-requires-clause-count : goal.link_children-requires-clause-count
link_children-requires-clause-count c =
    let place : c.index-places-index.result ≡ get_or c.args.places.now c.loop-index.index 0 = get_or_read c.args.places.now c.loop-index.index c.index-places-index.result (omega arith) c.index-places-index.is 0 in
    let count : c.in-Some.first + c.references.result - c.in-Some.first ≡ c.get-part.result.references = omega arith in
    rw (place, count) (children_count c.args.blocks.now c.args.parts.now c.args.places.now c.loop-index.blocks c.loop-index.index c.get-part.result c.loop-index.invariant (sym c.get-part.ensures) c.requires.count c.in-Some.first (sym c.in-Some.ensures) c.requires.children)

pub loop-index-preserved : goal.loop-index-preserved
loop-index-preserved c =
    let place : c.index-places-index.result ≡ get_or c.args.places.now c.loop-index.index 0 = get_or_read c.args.places.now c.loop-index.index c.index-places-index.result (omega arith) c.index-places-index.is 0 in
    let count : c.in-Some.first + c.references.result - c.in-Some.first ≡ c.get-part.result.references = omega arith in
    rw add-one
    (children_linked c.args.blocks.now c.args.parts.now c.args.places.now c.loop-index.blocks c.loop-index.index c.get-part.result c.loop-index.invariant (sym c.get-part.ensures) c.requires.count c.in-Some.first c.link_children.new.blocks (sym c.in-Some.ensures)
    (rw (place, count) at c.link_children.ensures))

pub returns-in_default : goal.returns-in_default
returns-in_default c =
    let none : c.get-part.result.children ≡ None = sym c.first_child.ensures ∙ c.in_default.is in
    rest_linked (length c.args.parts.now - c.loop-index.index) c.loop-index.index c.args.blocks.now c.args.parts.now c.args.places.now c.loop-index.blocks c.requires.children c.requires.count (omega arith)
    (λ number part after at. c.requires.children.last c.loop-index.index number c.get-part.result part after (sym c.get-part.ensures) none at) c.loop-index.invariant
