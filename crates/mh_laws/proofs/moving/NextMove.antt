-- The next move of defragmentation, and what it consists of.
use Rattle.std.proofs.Common.{◌≡◌, ℕ, true, Some, None, arith}
use Rattle.mh_model.specs.Pages.{Page, Table, page_number, slot_number, page_at, block_in, least_dense_place}
use Rattle.mh_model.specs.{Table.Block, Collector.{Move, next_move}}

-- a block that is no forwarder moves from a flagged page in use to a place that the first tier gives for its class
pub record IsNextMove (table : Table Block) (place : ℕ) (move : Move) : Type 0 where
  pub page : Page Block
  pub in_use : page_at table (page_number place) ≡ Some page
  pub flagged : page.is_flagged ≡ true
  pub there : block_in (slot_number place) page ≡ Some move.block
  pub live : move.block.forward ≡ None
  pub class : page.class_size ≡ move.class_size
  pub target : least_dense_place table move.class_size ≡ Some move.target

pub next_move-is : (table : Table Block) (place : ℕ) (move : Move) → next_move table place ≡ Some move → IsNextMove table place move
next_move-is table place move e = grind arith
