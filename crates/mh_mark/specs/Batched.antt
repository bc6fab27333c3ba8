-- Marking by a batch.
use Rattle.std.specs.Prelude.{ℕ, List, length, drop}
use Rattle.mh_model.specs.{Collector.Marking, Batches.{longest_front, batch_marked}}

-- the batch that is taken: the longest front of at most 1,024 places that fits in what is left
abbrev pub front_of : ℕ → Marking → List ℕ
front_of left marking = longest_front 1024 marking.table left marking.grey

-- the marking after it
abbrev pub front_marked : ℕ → Marking → Marking
front_marked left marking = batch_marked marking (front_of left marking) (drop (length (front_of left marking)) marking.grey)
