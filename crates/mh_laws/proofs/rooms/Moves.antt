-- A move goes to a place that is free for its class.
use Rattle.std.proofs.Common.{◌≡◌, ℕ, Some, arith}
use Rattle.mh_model.specs.{Pages.{Table, HaveTheirSlots, IsFreeFor}, Table.Block, Collector.{Move, next_move}}
use Rattle.mh_table_laws.proofs.{Lists.below_length, placing.Places.{shaped-slots, least_dense_place-page}}
use Rattle.mh_laws.proofs.moving.NextMove.{next_move-is}

-- a move goes to a place that is free for its class
pub move-free : (table : Table Block) (place : ℕ) (move : Move) → HaveTheirSlots table → next_move table place ≡ Some move → IsFreeFor table move.class_size move.target
move-free table place move slots e =
    let (page, at, of_class, unflagged, empty) = least_dense_place-page table move.class_size (shaped-slots table slots) move.target (next_move-is table place move e).target in
    grind (arith, below_length)
