use Rattle.std.proofs.Common.{◌^◌, ap, sym, subst, arith}
use Rattle.mh_model.specs.Deeds.{units_of}
use Rattle.mh_tell_cycles.specs.Tallies.{HasRoom}
use Rattle.mh_tell_cycles.proofs.TallyLemmas.{room-all, room-less}
use Rattle.mh_tell_cycles.proofs.underway.Underway.take.Goals as goal

pub take_quantum-requires-clause-room : goal.take_quantum-requires-clause-room
take_quantum-requires-clause-room c =
    let deeds = c.deeds.result.now in
    subst (HasRoom (2 ^ 125)) (sym c.note_all.ensures.value)
    (room-less _ (2 ^ 125) _ (omega (arith, c.note_all.ensures.few, c.requires.commands, ap units_of c.deeds.ensures)) (room-all deeds (2 ^ 120) c.args.self.now.tally c.requires.room))
