use Rattle.std.proofs.{Common.{◌^◌, sym, subst, take, arith}, lemmas.List.length-take, lemmas.List.Sums.sum_by-take-le}
use Rattle.mh_model.specs.Deeds.{deed_units}
use Rattle.mh_tell_cycles.specs.Tallies.{HasRoom}
use Rattle.mh_tell_cycles.proofs.TallyLemmas.{room-all, room-less, tally-more}
use Rattle.mh_tell_cycles.proofs.tally.Tally.note_all.Goals as goal

pub note-requires-clause-room : goal.note-requires-clause-room
note-requires-clause-room c =
    let front = take c.loop-deed.deed-index c.args.deeds.now in
    let few = sum_by-take-le deed_units c.args.deeds.now c.loop-deed.deed-index in
    let short = length-take c.loop-deed.deed-index c.args.deeds.now in
    subst (HasRoom (2 ^ 126)) (sym c.loop-deed.invariant)
    (room-less _ (2 ^ 126) _ (omega (arith, few, short, c.loop-deed.auto.deed-index-end, c.requires.units)) (room-all front (2 ^ 125) c.args.self.now c.requires.room))

pub loop-deed-preserved : goal.loop-deed-preserved
loop-deed-preserved c = tally-more c.args.deeds.now c.loop-deed.deed-index _ _ _ c.deed-item.result c.loop-deed-test.true c.deed-item.is c.loop-deed.invariant c.note.ensures
