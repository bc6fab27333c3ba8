use Rattle.mh_size_counts.proofs.RoomLemmas.{NoneBefore}
use Rattle.mh_size_counts.proofs.room.room_for.Given as goal

abbrev pub invariant-loop-pages : goal.invariant-loop-pages
invariant-loop-pages l = record { before : NoneBefore l.options l.pages }
