use Rattle.std.proofs.Common.{Some, ap, rules}
use Rattle.mh_model.specs.Collector.{Marking}
use Rattle.mh_grey.specs.Shading.{marking}
use Rattle.mh_mark.proofs.ReferenceLemmas.{is_moved, marked-moved, marked-straight, marked-null, written-there, marked-apart_at, marked-written}
use Rattle.mh_mark.proofs.mark.mark_reference.Goals as goal

pub shade_place-requires-clause-there : goal.shade_place-requires-clause-there
shade_place-requires-clause-there c =
    let moved = is_moved c.args.blocks.now c.args.address.place c.args.index c.in-Some.place c.resolve-target.result c.reference_from.result c.requires.home c.reference_from.ensures c.in-Some.is c.resolve-target.ensures in
    rw c.set_reference_from.ensures (written-there c.args.blocks.now c.args.address.place c.args.index c.resolve-target.result (Some c.resolve-target.result) moved.home)

pub shade_place-requires-clause-apart : goal.shade_place-requires-clause-apart
shade_place-requires-clause-apart c = rw c.set_reference_from.ensures (marked-apart_at _ c.args.cycle c.args.grey.now.places c.resolve-target.result (marked-written c.args.blocks.now c.args.address.place c.args.index (Some c.resolve-target.result) c.args.cycle c.args.grey.now.places c.requires.marked))

pub returns-else-is_forwarder-clause-table : goal.returns-else-is_forwarder-clause-table
returns-else-is_forwarder-clause-table c =
    rw c.shade_place-else-is_forwarder.ensures.table
    (ap (λ (m : Marking). m.table) (marked-straight (marking c.args.blocks.now c.args.grey.now.places c.args.cycle) c.args.address.place c.args.index c.in-Some.place c.reference_from.result c.is_forwarder.result c.reference_from.ensures c.in-Some.is c.is_forwarder.ensures c.if-is_forwarder.false))

pub returns-else-is_forwarder-clause-grey : goal.returns-else-is_forwarder-clause-grey
returns-else-is_forwarder-clause-grey c =
    rw c.shade_place-else-is_forwarder.ensures.grey
    (ap (λ (m : Marking). record { places = m.grey; pages = c.args.grey.now.pages }) (marked-straight (marking c.args.blocks.now c.args.grey.now.places c.args.cycle) c.args.address.place c.args.index c.in-Some.place c.reference_from.result c.is_forwarder.result c.reference_from.ensures c.in-Some.is c.is_forwarder.ensures c.if-is_forwarder.false))

pub returns-then-is_forwarder-clause-table : goal.returns-then-is_forwarder-clause-table
returns-then-is_forwarder-clause-table c =
    let moved = is_moved c.args.blocks.now c.args.address.place c.args.index c.in-Some.place c.resolve-target.result c.reference_from.result c.requires.home c.reference_from.ensures c.in-Some.is c.resolve-target.ensures in
    rw (c.shade_place.ensures.table, c.set_reference_from.ensures) (ap (λ (m : Marking). m.table) (marked-moved (marking c.args.blocks.now c.args.grey.now.places c.args.cycle) c.args.address.place c.args.index c.in-Some.place c.resolve-target.result moved))

pub returns-then-is_forwarder-clause-grey : goal.returns-then-is_forwarder-clause-grey
returns-then-is_forwarder-clause-grey c =
    let moved = is_moved c.args.blocks.now c.args.address.place c.args.index c.in-Some.place c.resolve-target.result c.reference_from.result c.requires.home c.reference_from.ensures c.in-Some.is c.resolve-target.ensures in
    rw (c.shade_place.ensures.grey, c.set_reference_from.ensures)
    (ap (λ (m : Marking). record { places = m.grey; pages = c.args.grey.now.pages }) (marked-moved (marking c.args.blocks.now c.args.grey.now.places c.args.cycle) c.args.address.place c.args.index c.in-Some.place c.resolve-target.result moved))

pub returns-in_default-clause-table : goal.returns-in_default-clause-table
returns-in_default-clause-table c = ap (λ (m : Marking). m.table) (marked-null (marking c.args.blocks.now c.args.grey.now.places c.args.cycle) c.args.address.place c.args.index c.reference_from.result c.reference_from.ensures (search rules))
