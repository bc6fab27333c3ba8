-- The collector: marking, sweep and defragmentation by steps with their costs, and the quantum, which takes such steps.
use Rattle.std.specs.Prelude.{ℕ, zero, suc, ◌+◌, ◌-◌, ◌*◌, ◌==◌, nat_lt, nat_le, Bool, true, false, not, ◌&&◌, ◌||◌, if◌then◌else◌, Option, Some, None, is_some, option_map, option_and_then, List, [], ◌∷◌, ◌++◌, length, set, get_or, map, replicate}
use Rattle.mh_model.specs.{declared.config.Config.Config, declared.cycle.Phase.Phase}
use Rattle.mh_model.specs.declared.cycle.Phase.TheVariants.{Idle, Roots, Mark, Sweep, Defrag}
use Rattle.mh_model.specs.Pages.{Page, Table, page_number, slot_number, page_at, block_in, block_at, live_in, free_pages, has_denser, least_dense_place, page_with, with_block, with_taken}
use Rattle.mh_model.specs.Table.{Block, references_at, with_reference_at, is_forwarder, resolve, target_of}
use Rattle.mh_model.specs.Limits.{root_slots}

-- the table and the slots; the phase, with the next slot of the roots or the next place of the sweep or of defragmentation; the grey list;
-- the cycle's number; whether a cycle is asked for; and how many quanta the running cycle has had, with the one that started it, and 0 if none runs
-- from: Metronome; the count of quanta own
pub record Collector : Type 0 where
  pub table : Table Block
  pub slots : List (Option ℕ)
  pub phase : Phase
  pub cursor : ℕ
  pub grey : List ℕ
  pub cycle : ℕ
  pub is_asked : Bool
  pub quanta : ℕ

-- the collector at first: each page is free, each slot is empty, and no cycle has run
abbrev pub first_collector : Config → Collector
first_collector config = record { table = replicate config.pages None; slots = replicate root_slots None; phase = Idle; cursor = 0; grey = []; cycle = 0; is_asked = false; quanta = 0 }

-- Shading ----------------------------------------------------------------------------------------

-- what marking works on: the table, the grey list and the cycle's number
-- from: Yuasa
pub record Marking : Type 0 where
  pub table : Table Block
  pub grey : List ℕ
  pub cycle : ℕ

-- a block is marked in a cycle when its stamp is the cycle's number
-- from: Yuasa
abbrev pub is_marked : ℕ → Block → Bool
is_marked cycle block = block.stamp == cycle

-- the block at a place marked, and its place appended to the grey list
-- from: Yuasa
abbrev pub with_grey : Marking → ℕ → Block → Marking
with_grey marking place block = record marking { table = with_block marking.table place (Some (record block { stamp = marking.cycle })); grey = marking.grey ++ place ∷ [] }

-- the block at a place marked and its place appended to the grey list, if a block is there that isn't marked
-- from: Yuasa
abbrev pub shade_block : Marking → ℕ → Option Block → Marking
shade_block marking place None = marking
shade_block marking place (Some block) = if is_marked marking.cycle block then marking else with_grey marking place block

abbrev pub shade_place : Marking → ℕ → Marking
shade_place marking place = shade_block marking place (block_at marking.table place)

-- a reference shaded: where it leads, a block that isn't marked becomes marked and grey
-- from: Yuasa
abbrev pub shade : Marking → Option ℕ → Marking
shade marking None = marking
shade marking (Some place) = shade_place marking (resolve marking.table place)

-- Marking ----------------------------------------------------------------------------------------

-- a reference of a block: resolved, written back, and shaded. Shading resolves the written word once more, which gives the same, since no forwarder
-- leads to another
-- from: Yuasa; writing back own
abbrev pub mark_reference : Marking → ℕ → ℕ → Option ℕ → Marking
mark_reference marking place index reference =
    let target = target_of marking.table reference in
    shade (record marking { table = with_reference_at marking.table place index target }) target

-- references of a block in order, from this one on: each resolved, written back and shaded
-- from: Yuasa; writing back own
abbrev pub mark_references : Marking → ℕ → ℕ → List (Option ℕ) → Marking
mark_references marking place index [] = marking
mark_references marking place index (reference ∷ references) = mark_references (mark_reference marking place index reference) place (suc index) references

-- the first block of this grey list taken off it, and its references marked through
-- from: Yuasa; writing back own
abbrev pub mark_first : Marking → List ℕ → Marking
mark_first marking [] = marking
mark_first marking (place ∷ grey) = mark_references (record marking { grey = grey }) place 0 (references_at marking.table place)

-- a mark step: the first grey block is taken; each of its references in order is resolved, written back and shaded
-- from: Yuasa; writing back own
abbrev pub mark_step : Marking → Marking
mark_step marking = mark_first marking marking.grey

-- what marking through the block at a place costs: 1, and 1 for each of its references
abbrev pub mark_cost : Table Block → ℕ → ℕ
mark_cost table place = 1 + length (references_at table place)

-- Sweep ------------------------------------------------------------------------------------------

-- slot 0 of the page after that of this place
abbrev pub next_page : ℕ → ℕ
next_page place = 64 * (page_number place + 1)

-- a place is in the last slot of this page
abbrev pub is_last_slot : ℕ → Page Block → Bool
is_last_slot place page = suc (slot_number place) == length page.slots

-- how sweep and defragmentation go on: to the next slot of a page that they go through, and else to the next page
abbrev pub next_place : ℕ → Option (Page Block) → ℕ
next_place place None = next_page place
next_place place (Some page) = if is_last_slot place page then next_page place else place + 1

-- what the sweep leaves of a block: nothing of a forwarder or of one that isn't marked
-- from: Metronome; the freeing of forwarders own
abbrev pub survivor : ℕ → Block → Option Block
survivor cycle block = if is_forwarder block || not (is_marked cycle block) then None else Some block

-- a page after the sweep of its last slot: free if it has no block;
-- else flagged if at most a quarter of its slots has one and a page below it is unflagged and of its class; else unflagged
-- from: Metronome; the threshold own
abbrev pub judged_page : Table Block → ℕ → Page Block → Option (Page Block)
judged_page table number page =
    if live_in page == 0
    then None
    else Some (record page { is_flagged = nat_le (4 * live_in page) (length page.slots) && has_denser table number page.class_size })

-- a page after the sweep of one of its slots: after that of the last one it is free, flagged or unflagged
-- from: Metronome
abbrev pub swept_page : ℕ → Table Block → ℕ → Page Block → Option (Page Block)
swept_page cycle table place page =
    let swept = page_with (slot_number place) (option_and_then (survivor cycle) (block_in (slot_number place) page)) page in
    if is_last_slot place page then judged_page table (page_number place) swept else Some swept

-- the table after the sweep step at a place: a free page is passed; in a page in use one slot is swept
-- from: Metronome
abbrev pub swept_table : ℕ → Table Block → ℕ → Table Block
swept_table cycle table place = set table (page_number place) (option_and_then (swept_page cycle table place) (page_at table (page_number place)))

-- Defragmentation --------------------------------------------------------------------------------

-- a move: a block, the class of its page, and the place that it goes to
-- from: Metronome
pub record Move : Type 0 where
  pub block : Block
  pub class_size : ℕ
  pub target : ℕ

-- a page in use, if it is flagged
abbrev pub if_flagged : Page Block → Option (Page Block)
if_flagged page = if page.is_flagged then Some page else None

-- the page of a place, if it is in use and flagged
-- from: Metronome
abbrev pub flagged_page : Table Block → ℕ → Option (Page Block)
flagged_page table place = option_and_then if_flagged (page_at table (page_number place))

-- a block of a page moves if it isn't a forwarder and the first tier of placement gives a place
-- from: Metronome; own
abbrev pub move_of : Table Block → Page Block → Block → Option Move
move_of table page block =
    if is_forwarder block
    then None
    else option_map (λ target. record { block = block; class_size = page.class_size; target = target }) (least_dense_place table page.class_size)

-- the move that the defragmentation step at a place makes, if it makes one
-- from: Metronome; own
abbrev pub next_move : Table Block → ℕ → Option Move
next_move table place = option_and_then (λ page. option_and_then (move_of table page) (block_in (slot_number place) page)) (flagged_page table place)

-- the table after a move: an equal block at its target, and a forwarder where it was
-- from: Brooks, Metronome
abbrev pub moved_table : Table Block → ℕ → Move → Table Block
moved_table table place move = with_block (with_taken table move.class_size move.target move.block) place (Some (record (move.block) { forward = Some move.target }))

-- slots, each leading straight to where it led, so to the copy of a block that moved
-- from: Brooks, Metronome
abbrev pub forwarded_slots : Table Block → List (Option ℕ) → List (Option ℕ)
forwarded_slots table slots = map (target_of table) slots

-- what a step of defragmentation costs: 1; with a move the words of its class more; with the first move of a quantum 144 more, 1 for each slot
abbrev pub move_cost : Bool → Option Move → ℕ
move_cost has_moved None = 1
move_cost true (Some move) = 1 + move.class_size
move_cost false (Some move) = 1 + move.class_size + root_slots

-- Steps ------------------------------------------------------------------------------------------

-- what marking works on in a collector, and the collector with the table and the grey list that marking leaves
abbrev pub marking_of : Collector → Marking
marking_of collector = record { table = collector.table; grey = collector.grey; cycle = collector.cycle }

abbrev pub with_marking : Collector → Marking → Collector
with_marking collector marking = record collector { table = marking.table; grey = marking.grey }

-- the collector in this phase, with this cursor
abbrev pub with_phase : Collector → Phase → ℕ → Collector
with_phase collector phase cursor = record collector { phase = phase; cursor = cursor }

-- a reference shaded by the collector
abbrev pub with_shade : Collector → Option ℕ → Collector
with_shade collector reference = with_marking collector (shade (marking_of collector) reference)

-- a step of the roots: what the next slot leads to is shaded
-- from: Metronome; own
abbrev pub roots_step : Collector → Collector
roots_step collector = with_phase (with_shade collector (get_or collector.slots collector.cursor None)) Roots (collector.cursor + 1)

-- a step of the sweep: the place at the cursor is swept, and the cursor goes on
-- from: Metronome; own
abbrev pub sweep_step : Collector → Collector
sweep_step collector =
    record collector {
      table = swept_table collector.cycle collector.table collector.cursor;
      cursor = next_place collector.cursor (page_at collector.table (page_number collector.cursor));
    }

-- the collector after the move of the block at its cursor, if there is one; then each slot leads straight to where it led
-- from: Metronome; own
abbrev pub with_move : Collector → Option Move → Collector
with_move collector None = collector
with_move collector (Some move) =
    let table = moved_table collector.table collector.cursor move in
    record collector { table = table; slots = forwarded_slots table collector.slots }

-- a step of defragmentation: a page that is free or unflagged is passed; in a flagged page the next slot's block moves, if it can
-- from: Metronome; own
abbrev pub defrag_step : Collector → Collector
defrag_step collector = with_phase (with_move collector (next_move collector.table collector.cursor)) Defrag (next_place collector.cursor (flagged_page collector.table collector.cursor))

-- the step of a phase: none if no cycle runs
-- from: Metronome; own
abbrev pub step_in : Phase → Collector → Collector
step_in Idle collector = collector
step_in Roots collector = roots_step collector
step_in Mark collector = with_marking collector (mark_step (marking_of collector))
step_in Sweep collector = sweep_step collector
step_in Defrag collector = defrag_step collector

-- Phases that follow at once ---------------------------------------------------------------------

-- marking goes on, or the sweep begins if no block is grey
-- from: Metronome; own
abbrev pub after_mark : Collector → List ℕ → Collector
after_mark collector [] = with_phase collector Sweep 0
after_mark collector (place ∷ grey) = with_phase collector Mark 0

-- a place is after the last page
abbrev pub is_past : Table Block → ℕ → Bool
is_past table place = nat_le (length table) (page_number place)

-- the collector as a cycle ends: no cycle runs, and no quanta are counted
-- from: Metronome; own
abbrev pub cycle_end : Collector → Collector
cycle_end collector = record collector { phase = Idle; cursor = 0; quanta = 0 }

-- the phase that follows at once when one is done: the roots are done after 144 slots, marking when no block is grey,
-- sweep and defragmentation past the last page
-- from: Metronome; own
abbrev pub phase_after : Phase → Collector → Collector
phase_after Idle collector = collector
phase_after Roots collector = if collector.cursor == root_slots then after_mark collector collector.grey else collector
phase_after Mark collector = after_mark collector collector.grey
phase_after Sweep collector = if is_past collector.table collector.cursor then with_phase collector Defrag 0 else collector
phase_after Defrag collector = if is_past collector.table collector.cursor then cycle_end collector else collector

-- the step that the phase has, and the phase that follows at once when it is done
-- from: Metronome; own
unfoldable pub collector_step : Collector → Collector
collector_step collector = phase_after collector.phase (step_in collector.phase collector)

-- what marking through the first block of this grey list costs: 1 if the list is empty
abbrev pub first_mark_cost : Table Block → List ℕ → ℕ
first_mark_cost table [] = 1
first_mark_cost table (place ∷ grey) = mark_cost table place

-- what the next step of a phase costs: 0 if no cycle runs; 2 in the roots; in marking what the first grey block costs; 1 in the sweep;
-- and in defragmentation what the step's move costs
abbrev pub cost_in : Phase → Collector → Bool → ℕ
cost_in Idle collector has_moved = 0
cost_in Roots collector has_moved = 2
cost_in Mark collector has_moved = first_mark_cost collector.table collector.grey
cost_in Sweep collector has_moved = 1
cost_in Defrag collector has_moved = move_cost has_moved (next_move collector.table collector.cursor)

-- what the next step costs in units, by whether the quantum has moved a block
unfoldable pub step_cost : Collector → Bool → ℕ
step_cost collector has_moved = cost_in collector.phase collector has_moved

-- the next step of a phase moves a block, which only one of defragmentation can
abbrev pub is_moving_in : Phase → Collector → Bool
is_moving_in Defrag collector = is_some (next_move collector.table collector.cursor)
is_moving_in _ collector = false

-- the next step moves a block
abbrev pub is_moving : Collector → Bool
is_moving collector = is_moving_in collector.phase collector

-- Quanta -----------------------------------------------------------------------------------------

-- no cycle runs
abbrev pub is_idle : Phase → Bool
is_idle Idle = true
is_idle _ = false

-- the collector as a cycle starts: in the roots, with the next number and nothing grey; a cycle is asked for no more
-- from: Metronome; own
abbrev pub cycle_start : Collector → Collector
cycle_start collector = record collector { phase = Roots; cursor = 0; grey = []; cycle = collector.cycle + 1; is_asked = false; quanta = 0 }

-- no cycle runs, and one is asked for or no more pages are free than the trigger
-- from: Metronome; own
abbrev pub is_start_due : Config → Collector → Bool
is_start_due config collector = is_idle collector.phase && (collector.is_asked || nat_le (free_pages collector.table) config.trigger)

-- a cycle that runs has had one quantum more
abbrev pub with_count : Collector → Collector
with_count collector = if is_idle collector.phase then collector else record collector { quanta = collector.quanta + 1 }

-- the collector as a quantum begins: a cycle that is due starts, and the quantum is counted if a cycle runs
-- from: Metronome; own
abbrev pub quantum_start : Config → Collector → Collector
quantum_start config collector = with_count (if is_start_due config collector then cycle_start collector else collector)

-- the units that steps spent, and the collector after them
pub record Spending : Type 0 where
  pub units : ℕ
  pub collector : Collector

-- what steps spent, with so many units more
abbrev pub with_units : ℕ → Spending → Spending
with_units units spending = record spending { units = units + spending.units }

-- the steps of a quantum and the units that they cost: they go on while a cycle runs and the next one's cost fits in what is left;
-- the first number counts them down, from as many as there are units. No step of a running cycle is free, so the count never ends the quantum, which
-- is a law
unfoldable pub steps : ℕ → ℕ → Bool → Collector → Spending
steps zero left has_moved collector = record { units = 0; collector = collector }
steps (suc more) left has_moved collector =
    elim (is_idle collector.phase || nat_lt left (step_cost collector has_moved)) [
      | true ↦ record { units = 0; collector = collector }
      | false ↦ with_units (step_cost collector has_moved) (steps more (left - step_cost collector has_moved) (has_moved || is_moving collector) (collector_step collector))
    ]

-- a quantum of at most as many units as are configured
unfoldable pub quantum : Config → Collector → Spending
quantum config collector = steps config.quantum config.quantum false (quantum_start config collector)
