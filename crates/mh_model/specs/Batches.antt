-- Marking by batches: what a front of the grey list refers to is found at once, and then written back and shaded block by block.
use Rattle.std.specs.Prelude.{ℕ, zero, suc, ◌-◌, ◌==◌, nat_le, if◌then◌else◌, Option, List, [], ◌∷◌}
use Rattle.std.specs.List.{IsDistinct, sum_by}
use Rattle.mh_model.specs.{Pages.Table, Table.{Block, with_reference_at, found_in}}
use Rattle.mh_model.specs.Collector.{Collector, Marking, shade, mark_cost, marking_of, with_marking, after_mark}

-- no place is in a list twice
abbrev pub NoneTwice : List ℕ → Type 0
NoneTwice grey = IsDistinct (λ place other. place == other) grey

-- what was found of a block written back and shaded, in order from this reference on
abbrev pub written_back : Marking → ℕ → ℕ → List (Option ℕ) → Marking
written_back marking place index [] = marking
written_back marking place index (target ∷ found) = written_back (shade (record marking { table = with_reference_at marking.table place index target }) target) place (suc index) found

-- what was found of a batch written back and shaded, block by block in order
abbrev pub batch_written : Marking → List ℕ → List (List (Option ℕ)) → Marking
batch_written marking [] all = marking
batch_written marking (place ∷ batch) [] = marking
batch_written marking (place ∷ batch) (found ∷ all) = batch_written (written_back marking place 0 found) batch all

-- a batch taken off the grey list, of which this is left: found at once, and then written back and shaded
abbrev pub batch_marked : Marking → List ℕ → List ℕ → Marking
batch_marked marking batch rest = batch_written (record marking { grey = rest }) batch (found_in marking.table batch)

-- the collector after a batch, and the phase that follows at once
abbrev pub after_batch : Collector → List ℕ → List ℕ → Collector
after_batch collector batch rest = let marking = batch_marked (marking_of collector) batch rest in after_mark (with_marking collector marking) marking.grey

-- what marking through a batch costs
abbrev pub batch_cost : Table Block → List ℕ → ℕ
batch_cost table batch = sum_by (mark_cost table) batch

-- the longest front of a grey list that has at most so many places and whose marking fits in what is left
unfoldable pub longest_front : ℕ → Table Block → ℕ → List ℕ → List ℕ
longest_front zero table left grey = []
longest_front (suc most) table left [] = []
longest_front (suc most) table left (place ∷ grey) = if nat_le (mark_cost table place) left then place ∷ longest_front most table (left - mark_cost table place) grey else []
