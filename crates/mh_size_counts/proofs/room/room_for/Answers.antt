use Rattle.std.proofs.Common.{arith}
use Rattle.mh_size_counts.specs.Room.{IsRoomHeap}
use Rattle.mh_size_counts.proofs.RoomLemmas.{room_for_all, room_found}
use Rattle.mh_size_counts.proofs.room.room_for.Goals as goal

-- the heap of the pages that are tried
found : (c : goal.After-saturating_sub) → IsRoomHeap c.args.options.now (record { opens = c.opens_in-opens.result; trigger = c.saturating_sub.result; pages = c.loop-pages.pages })
found c =
    room_found c.args.options.now (record { opens = c.opens_in-opens.result; trigger = c.saturating_sub.result; pages = c.loop-pages.pages }) (omega arith) (omega arith) c.opens_in-opens.ensures.value (omega arith) (omega arith)
    c.loop-pages.invariant.before

pub returns-then-from-opens-clause-heap : goal.returns-then-from-opens-clause-heap
returns-then-from-opens-clause-heap c = found c

pub returns-then-from-opens-clause-room : goal.returns-then-from-opens-clause-room
returns-then-from-opens-clause-room c =
    room_for_all c.each_run_has_its_room.ensures c.args.options.now (record { opens = c.opens_in-opens.result; trigger = c.saturating_sub.result; pages = c.loop-pages.pages }) (found c)
