use Rattle.std.proofs.{Common.{refl, arith}, lemmas.Bool.ltb-true}
use Rattle.mh_model.specs.Classes.{is_class_size}
use Rattle.mh_groups.proofs.RoomLemmas.{no_room}
use Rattle.mh_groups.proofs.group.lacks_room.Goals as goal

pub of_size-requires : goal.of_size-requires
unfolding is_class_size
of_size-requires c = refl

pub returns-clause-refused : goal.returns-clause-refused
returns-clause-refused c = grind (arith, no_room, ltb-true)
