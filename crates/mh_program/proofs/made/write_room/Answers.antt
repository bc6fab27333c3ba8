use Rattle.mh_size_counts.specs.Texts.{IsRoomText}
use Rattle.mh_program.proofs.SizeLemmas.{written-is}
use Rattle.mh_program.proofs.made.write_room.Goals as goal

pub returns : goal.returns
returns g c = written-is (IsRoomText c.args.options.now) c.room_text.result _ _ c.write_size.result c.room_text.ensures c.write_size.ensures.made c.write_size.ensures.none
