-- Marking by batches: what a front of the grey list refers to is found at once, and then written back and shaded block by block.
use Rattle.std.specs.Prelude.{◌≡◌, ◌⊎◌, ℕ, ◌+◌, ◌-◌, ◌<◌, ◌≤◌, Bool, List, [], ◌++◌, length}
use Rattle.mh_model.specs.{declared.cycle.Phase.TheVariants.Mark, Pages.Table, Table.Block}
use Rattle.mh_model.specs.Collector.{Collector, Marking, first_mark_cost, with_units, steps}
use Rattle.mh_model.specs.Batches.{NoneTwice, batch_cost, batch_marked, after_batch, longest_front}
use Rattle.mh_table_laws.specs.Marking.{mark_steps}

-- the longest front of a grey list that has at most so many places and fits in what is left, and why it ends there: it is full, no place is after it,
-- or the next doesn't fit
pub record IsLongestFront (most : ℕ) (table : Table Block) (left : ℕ) (grey batch : List ℕ) : Type 0 where
  pub rest : List ℕ
  pub is_front : grey ≡ batch ++ rest
  pub few : length batch ≤ most
  pub fits : batch_cost table batch ≤ left
  pub longest : (other after : List ℕ) → grey ≡ other ++ after → length other ≤ most → batch_cost table other ≤ left → length other ≤ length batch
  pub ended : (length batch ≡ most) ⊎ ((rest ≡ []) ⊎ (left < batch_cost table batch + first_mark_cost table rest))

-- Let no place be in the grey list twice. A front of it may be found at once, and then written back and shaded block by block: that gives what
-- marking one block at a time gives. The steps of a quantum begin with a batch that fits. They end with it if the next block doesn't fit, and there
-- are none if the first block doesn't. `longest_front` gives the longest front of at most so many places that fits
pub record AnyCutIntoBatchesIsTheSame : Type 0 where
  pub same : (marking : Marking) (batch rest : List ℕ) → marking.grey ≡ batch ++ rest → NoneTwice marking.grey → mark_steps (length batch) marking ≡ batch_marked marking batch rest
  pub begins : (collector : Collector) (batch rest : List ℕ) (left : ℕ) (has_moved : Bool) → collector.phase ≡ Mark → collector.grey ≡ batch ++ rest → NoneTwice collector.grey → 0 < length batch → batch_cost collector.table batch ≤ left →
      let left_after = left - batch_cost collector.table batch in
      steps left left has_moved collector ≡ with_units (batch_cost collector.table batch) (steps left_after left_after has_moved (after_batch collector batch rest))
  pub ends : (collector : Collector) (batch rest : List ℕ) (left : ℕ) (has_moved : Bool) → collector.phase ≡ Mark → collector.grey ≡ batch ++ rest → NoneTwice collector.grey → 0 < length batch → 0 < length rest →
      left < batch_cost collector.table batch + first_mark_cost collector.table rest →
      let left_after = left - batch_cost collector.table batch in
      steps left_after left_after has_moved (after_batch collector batch rest) ≡ record { units = 0; collector = after_batch collector batch rest }
  pub stops : (collector : Collector) (left : ℕ) (has_moved : Bool) → collector.phase ≡ Mark → left < first_mark_cost collector.table collector.grey → steps left left has_moved collector ≡ record { units = 0; collector = collector }
  pub longest : (most : ℕ) (table : Table Block) (left : ℕ) (grey : List ℕ) → IsLongestFront most table left grey (longest_front most table left grey)
