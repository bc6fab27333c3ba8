-- Auxiliary definitions: what loops, private functions and the insides of types keep. No public contract depends on them.
use Rattle.std.specs.Prelude.{◌≡◌, ◌⊎◌, ℕ, ◌-◌, ◌≤◌, nat_lt, Bool, true, false, ◌||◌, ◌<◌, Option, List, length}
use Rattle.mh_model.specs.declared.cycle.Phase.{Phase}
use Rattle.mh_model.specs.declared.cycle.Phase.TheVariants.{Idle, Roots, Mark, Sweep, Defrag}
use Rattle.mh_model.specs.Collector.{Collector, is_idle, step_cost, with_units, steps, forwarded_slots, collector_step}
use Rattle.mh_model.specs.{Invariant.IsSteady, declared.config.Config.Config, Pages.{Table, page_number}, Table.Block}
use Rattle.mh_model.specs.Limits.{root_slots}
use Rattle.mh_cycle.specs.State.{CycleState, state_with_collector}
use Rattle.mh_grey.specs.Queue.{Queue}

-- The steps of a quantum, some at a time.

-- no cycle runs, or the next step doesn't fit in what is left
abbrev pub is_over : ℕ → Bool → Collector → Bool
is_over left moved collector = is_idle collector.phase || nat_lt left (step_cost collector moved)

-- the phases of a cycle in order, and its end
abbrev pub order : Phase → ℕ
order Roots = 0
order Mark = 1
order Sweep = 2
order Defrag = 3
order Idle = 4

-- the collector is in this phase or past it, or takes no step
abbrev pub IsFrom : Phase → ℕ → Collector → Type 0
IsFrom phase left collector = (order phase ≤ order collector.phase) ⊎ (is_over left false collector ≡ true)

-- steps that cost so many units lead from one collector to another, by whether the quantum has moved a block before and after them
abbrev pub IsStride : ℕ → Bool → Collector → Bool → Collector → Type 0
IsStride units moved old moves new = (left : ℕ) → units ≤ left → steps left left moved old ≡ with_units units (steps (left - units) (left - units) moves new)

-- steps that fit in what is left and move no block, which are none only if the next one doesn't fit
pub record IsStretch (left : ℕ) (old : Collector) (units : ℕ) (new : Collector) : Type 0 where
  pub fits : units ≤ left
  pub goes : (moved : Bool) → IsStride units moved old moved new
  pub dear : units ≡ 0 → is_over left false new ≡ true

-- a turn of marking: steps that fit in what is left, whether or not the quantum has moved a block before them
pub record IsMarkingTurn (left : ℕ) (old : CycleState) (units : ℕ) (new : CycleState) : Type 0 where
  pub config : new.config ≡ old.config
  pub steady : IsSteady new.collector
  pub fits : units ≤ left
  pub goes : (moved : Bool) → IsStride units moved old.collector moved new.collector

-- what a quantum with so much left begins with: steps that cost so many units, after which it goes on, and may have moved a block
pub record IsAdvance (left : ℕ) (old : CycleState) (units : ℕ) (moved : Bool) (new : CycleState) : Type 0 where
  pub config : new.config ≡ old.config
  pub steady : IsSteady new.collector
  pub fits : units ≤ left
  pub goes : steps left left false old.collector ≡ with_units units (steps (left - units) (left - units) moved new.collector)

-- all that a quantum with so much left does
pub record IsRest (left : ℕ) (old : CycleState) (units : ℕ) (new : CycleState) : Type 0 where
  pub config : new.config ≡ old.config
  pub fits : units ≤ left
  pub all : steps left left false old.collector ≡ record { units = units; collector = new.collector }

-- a collector with other slots
abbrev pub with_slots : Collector → List (Option ℕ) → Collector
with_slots collector slots = record collector { slots = slots }

-- a collector with its slots forwarded: each leads straight to where it led
abbrev pub with_forwarded : Collector → Collector
with_forwarded collector = with_slots collector (forwarded_slots collector.table collector.slots)

-- a collector after a step that leaves its slots as they were
abbrev pub step_beside_slots : Collector → Collector
step_beside_slots collector = with_slots (collector_step collector) collector.slots

-- a state with its slots forwarded
abbrev pub forwarded_state : CycleState → CycleState
forwarded_state state = state_with_collector state (with_forwarded state.collector)

-- the table has the pages that are configured, and the grey list is for as many; the cursor is in range, and marking has a grey block
pub record IsFramed (config : Config) (table : Table Block) (phase : Phase) (cursor : ℕ) (grey : Queue) : Type 0 where
  pub pages : length table ≡ config.pages
  pub listed : grey.pages ≡ length table
  pub some : 0 < length table
  pub roots : phase ≡ Roots → cursor < root_slots
  pub mark : phase ≡ Mark → 0 < length grey.places
  pub sweep : phase ≡ Sweep → page_number cursor < length table
  pub defrag : phase ≡ Defrag → page_number cursor < length table
