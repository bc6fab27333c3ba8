-- Auxiliary definitions: what loops, private functions and the insides of types keep. No public contract depends on them.
use Rattle.std.specs.Prelude.{ℕ, Option, Some, None, option_map, unwrap_or, List, [], ◌∷◌, Bool}
use Rattle.mh_model.specs.{declared.dump.DumpItem.DumpItem, Pages.{Page, Table, page_at}, Table.Block}
use Rattle.mh_model.specs.{Machine.dump_slots, Mutator.HeapState, CycleBounds.IsInBounds, Invariant.IsKeeping}
use Rattle.mh_cycle.specs.State.{CycleState}

-- What a page adds to a dump.

-- the slots of a page, none of a free one
abbrev pub slots_at : Table Block → ℕ → List (Option Block)
slots_at table page = unwrap_or (option_map (λ used. used.slots) (page_at table page)) []

-- a page in use with its blocks, and nothing of a free one
abbrev pub page_items : ℕ → Option (Page Block) → List DumpItem
page_items number None = []
page_items number (Some page) = DumpItem.Page number page.class_size page.is_flagged ∷ dump_slots 0 page.slots

-- the heap of these parts
abbrev pub heap_of : CycleState → ℕ → List Bool → HeapState
heap_of cycle next_birth ended = record { config = cycle.config; collector = cycle.collector; next_birth = next_birth; ended = ended }

-- what holds of a heap of pages: it keeps some snapshot, and its collector is within the bounds of its cycle
pub record IsHeap (cycle : CycleState) (next_birth : ℕ) (ended : List Bool) : Type 0 where
  pub keeping : IsKeeping (heap_of cycle next_birth ended)
  pub bounds : IsInBounds cycle.config cycle.collector
