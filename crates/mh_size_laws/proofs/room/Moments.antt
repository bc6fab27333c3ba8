-- Room from any moment on.
use Rattle.std.proofs.Common.{ℕ, ◌-◌, [], arith}
use Rattle.mh_model.specs.{Machine.{Machine, first_machine, machine_after}, Intervals.intervals}
use Rattle.mh_laws.proofs.bounds.CyclesInTime.{run-stays}
use Rattle.mh_size_laws.proofs.{openings.Intervals.{asked_of, since-more, since-first}, room.Runs.never-full}
use Rattle.mh_size_laws.specs.Room.{opened_by, RoomFromAMomentSuffices}

-- Room from a moment on suffices
pub moment-suffices : RoomFromAMomentSuffices
moment-suffices config before events quanta some has =
    let machine : Machine = machine_after (first_machine config) before in
    let room : ℕ = opened_by quanta config (intervals [] machine events) in
    never-full config quanta room events (quanta - machine.heap.collector.quanta) [] [] machine.heap.collector.table machine some has.trigger
    (search (arith, since-more, asked_of, since-first, run-stays))
    has.fewer has.left
