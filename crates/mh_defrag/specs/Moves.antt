-- The parts of a step of defragmentation.
use Rattle.std.specs.Prelude.{◌≡◌, ℕ, zero, suc, ◌<◌, length, Option, Some, None, IfSome, option_map}
use Rattle.mh_model.specs.{Pages.{Table, page_number, class_at, IsFreeFor}, Table.Block}
use Rattle.mh_model.specs.Collector.{Move, next_move, next_place, flagged_page, moved_table}

-- the place that the next move leads to, if there is one, which is free for the class of the page
pub record IsTarget (table : Table Block) (place : ℕ) (target : Option ℕ) : Type 0 where
  pub is : target ≡ option_map (λ move. move.target) (next_move table place)
  pub free : IfSome target (λ free. IfSome (class_at table (page_number place)) (λ size. IsFreeFor table size free))

-- the table after the move of the block at a place, if there is one
abbrev pub moved : Table Block → ℕ → Option Move → Table Block
moved table place None = table
moved table place (Some move) = moved_table table place move

-- the place of the next step after so many steps from a place on that leave the table as it is
abbrev pub place_after : Table Block → ℕ → ℕ → ℕ
place_after table place zero = place
place_after table place (suc count) = next_place (place_after table place count) (flagged_page table (place_after table place count))

-- so many steps from a place on move no block, and another place is that of the step after them
pub record AreStill (table : Table Block) (place count next : ℕ) : Type 0 where
  pub leads : next ≡ place_after table place count
  pub inside : (k : ℕ) → k < count → page_number (place_after table place k) < length table
  pub stay : (k : ℕ) → k < count → next_move table (place_after table place k) ≡ None
