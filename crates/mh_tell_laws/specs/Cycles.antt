-- The cycles of a run: for each the machine before and after it, what its events did, and the numbers that this comes to.
use Rattle.std.specs.Prelude.{ℕ, suc, ◌+◌, ◌-◌, ◌==◌, max, Bool, ◌&&◌, if◌then◌else◌, Option, Some, None, List, [], ◌∷◌, ◌++◌, filter_map, flat_map}
use Rattle.std.specs.List.{sum_by}
use Rattle.mh_model.specs.{declared.command.Event.Event, declared.config.Config.Config, declared.cycle.Phase.Phase}
use Rattle.mh_model.specs.{declared.cycle.Phase.TheVariants.Idle, declared.deed.Deed.Deed, declared.deed.Edge.Edge}
use Rattle.mh_model.specs.{declared.deed.Fate.Fate, declared.deed.Tier.Tier}
use Rattle.mh_model.specs.{declared.deed.Tier.TheVariants.{Dense, Fresh, Sparse}, declared.stat.Stat.Stat}
use Rattle.mh_model.specs.{Collector.{is_idle, is_start_due}, Deeds.{Ran, Account, deed_units, account_of}}
use Rattle.mh_model.specs.{Machine.{Machine, first_machine, half_step, event_step, stat_on}, Numbered.phase_number}
use Rattle.mh_model.specs.{Pages.slot_number, Snapshot.has_quantum, Trace.{mutator_count, collector_count}}

-- Cycles -----------------------------------------------------------------------------------------

-- a cycle, or as much of it as a run has: the number of the event whose quantum starts it, and the machine before that quantum; what its events did,
-- from that quantum on; and the number of its last event, with the machine after it
pub record Cycle : Type 0 where
  pub first : ℕ
  pub start : Machine
  pub accounts : List Account
  pub last : ℕ
  pub now : Machine

-- an event's quantum starts a cycle
abbrev pub starts_cycle : Machine → Event → Bool
starts_cycle machine event = let half = half_step machine event in has_quantum machine event && is_start_due half.heap.config half.heap.collector

-- what an event does by its quantum
abbrev pub quantum_account : Account → Account
quantum_account account = record { command = []; quantum = account.quantum }

-- the cycle that the quantum of this event starts, up to that event
abbrev pub cycle_begun : ℕ → Machine → Event → Cycle
cycle_begun number machine event = record {
  first = number;
  start = half_step machine event;
  accounts = quantum_account (account_of machine event) ∷ [];
  last = number;
  now = (event_step machine event).state;
}

-- a cycle with one event more
abbrev pub cycle_with : Cycle → Event → Cycle
cycle_with cycle event = record cycle { accounts = cycle.accounts ++ account_of cycle.now event ∷ []; last = suc cycle.last; now = (event_step cycle.now event).state }

-- a cycle has ended
abbrev pub has_ended : Cycle → Bool
has_ended cycle = is_idle cycle.now.heap.collector.phase

-- a cycle with those of the events after it that come before its end
abbrev pub cycle_through : Cycle → List Event → Cycle
cycle_through cycle [] = cycle
cycle_through cycle (event ∷ events) = if has_ended cycle then cycle else cycle_through (cycle_with cycle event) events

-- the cycles that these events start, of which the first has this number
unfoldable pub cycles_from : ℕ → Machine → List Event → List Cycle
cycles_from number machine [] = []
cycles_from number machine (event ∷ events) =
    let later = cycles_from (suc number) (event_step machine event).state events in
    if starts_cycle machine event then cycle_through (cycle_begun number machine event) events ∷ later else later

-- The cycles of a run, in order. Events are counted from 1
abbrev pub cycles_of : Config → List Event → List Cycle
cycles_of config events = cycles_from 1 (first_machine config) events

-- Deeds ------------------------------------------------------------------------------------------

-- the deeds of a quantum, if one was run
abbrev pub ran_deeds : Option Ran → List Deed
ran_deeds None = []
ran_deeds (Some ran) = ran.deeds

-- the deeds of an event: those of its command, and then those of its quantum
abbrev pub account_deeds : Account → List Deed
account_deeds account = account.command ++ ran_deeds account.quantum

-- all deeds of a cycle in order: its own, and those of commands while it ran
abbrev pub deeds_in_cycle : Cycle → List Deed
deeds_in_cycle cycle = flat_map account_deeds cycle.accounts

-- the quanta of a cycle in order
abbrev pub quanta_in_cycle : Cycle → List Ran
quanta_in_cycle cycle = filter_map (λ (account : Account). account.quantum) cycle.accounts

-- 1 for a deed that marks through a block
abbrev pub marks : Deed → ℕ
marks (Deed.Mark place name) = 1
marks _ = 0

-- 1 for a part that is made, and 1 for one that opens a page
abbrev pub makes : Deed → ℕ
makes (Deed.Make place name class_size fields tier) = 1
makes _ = 0

abbrev pub opens_by : Tier → ℕ
opens_by Dense = 0
opens_by Fresh = 1
opens_by Sparse = 0

abbrev pub opens : Deed → ℕ
opens (Deed.Make place name class_size fields tier) = opens_by tier
opens _ = 0

-- 1 for a block that a barrier shades
abbrev pub shades : Deed → ℕ
shades (Deed.Shade place) = 1
shades _ = 0

-- 1 for a slot whose block is freed, and 1 for one whose forwarder is
abbrev pub frees_by : Fate → ℕ
frees_by (Fate.Freed name) = 1
frees_by _ = 0

abbrev pub frees : Deed → ℕ
frees (Deed.Sweep place fate) = frees_by fate
frees _ = 0

abbrev pub drops_by : Fate → ℕ
drops_by (Fate.FreedForwarder target) = 1
drops_by _ = 0

abbrev pub drops : Deed → ℕ
drops (Deed.Sweep place fate) = drops_by fate
drops _ = 0

-- 1 for a page that becomes free
abbrev pub empties : Deed → ℕ
empties (Deed.FreePage page) = 1
empties _ = 0

-- 1 for a sparse page that defragmentation comes to, at its slot 0
abbrev pub begins_page : ℕ → ℕ
begins_page place = if slot_number place == 0 then 1 else 0

abbrev pub comes_to_sparse : Deed → ℕ
comes_to_sparse (Deed.Stay place) = begins_page place
comes_to_sparse (Deed.Move place to name class_size) = begins_page place
comes_to_sparse _ = 0

-- 1 for a block that moves, and the words of its class
abbrev pub moves : Deed → ℕ
moves (Deed.Move place to name class_size) = 1
moves _ = 0

abbrev pub words_moved : Deed → ℕ
words_moved (Deed.Move place to name class_size) = class_size
words_moved _ = 0

-- Phases -----------------------------------------------------------------------------------------

-- the phase after a deed, and after deeds in order
abbrev pub phase_after_deed : Phase → Deed → Phase
phase_after_deed phase (Deed.Enter next) = next
phase_after_deed phase Deed.End = Idle
phase_after_deed phase _ = phase

-- two phases are the same
abbrev pub is_phase : Phase → Phase → Bool
is_phase phase other = phase_number phase == phase_number other

-- the units that deeds cost in one phase, if they begin in another
abbrev pub units_in : Phase → Phase → List Deed → ℕ
units_in wanted phase [] = 0
units_in wanted phase (deed ∷ deeds) = (if is_phase wanted phase then deed_units deed else 0) + units_in wanted (phase_after_deed phase deed) deeds

-- The grey list ----------------------------------------------------------------------------------

-- the length of the grey list after a reference, and after a deed: what is shaded is put in it, and what is marked through is taken off
abbrev pub grey_after_edge : ℕ → Edge → ℕ
grey_after_edge grey edge = if edge.is_shaded then grey + 1 else grey

abbrev pub grey_after_deed : ℕ → Deed → ℕ
grey_after_deed grey (Deed.Root slot edge) = grey_after_edge grey edge
grey_after_deed grey (Deed.Reference index edge) = grey_after_edge grey edge
grey_after_deed grey (Deed.Shade place) = grey + 1
grey_after_deed grey (Deed.Mark place name) = grey - 1
grey_after_deed grey _ = grey

-- how long the grey list becomes by deeds, which find it with this length
abbrev pub longest_grey : ℕ → List Deed → ℕ
longest_grey grey [] = grey
longest_grey grey (deed ∷ deeds) = max grey (longest_grey (grey_after_deed grey deed) deeds)

-- Numbers ----------------------------------------------------------------------------------------

-- the number of a cycle
abbrev pub cycle_number : Cycle → ℕ
cycle_number cycle = cycle.start.heap.collector.cycle + 1

-- a cycle was asked for when it started
abbrev pub was_asked : Cycle → Bool
was_asked cycle = cycle.start.heap.collector.is_asked

-- the units of a run before a machine, and so before the first quantum of a cycle and after its last event
abbrev pub units_before : Machine → ℕ
units_before machine = mutator_count machine.trace.letters + collector_count machine.trace.letters

-- the units of the mutator, and of the collector, between these two
abbrev pub mutator_units : Cycle → ℕ
mutator_units cycle = mutator_count cycle.now.trace.letters - mutator_count cycle.start.trace.letters

abbrev pub collector_units : Cycle → ℕ
collector_units cycle = collector_count cycle.now.trace.letters - collector_count cycle.start.trace.letters

-- the most units that one of these quanta spent
abbrev pub greatest_spent : List Ran → ℕ
greatest_spent [] = 0
greatest_spent (ran ∷ quanta) = max ran.ended.units (greatest_spent quanta)

-- the units of a phase
abbrev pub phase_units : Cycle → Phase → ℕ
phase_units cycle phase = units_in phase Idle (deeds_in_cycle cycle)

-- the sum of what the deeds of a cycle count
abbrev pub counted : (Deed → ℕ) → Cycle → ℕ
counted weight cycle = sum_by weight (deeds_in_cycle cycle)

-- the free pages, live blocks and forwarders of the heap before the first quantum of a cycle, and after its last event
abbrev pub stat_before : Cycle → Stat
stat_before cycle = stat_on cycle.start.heap.collector

abbrev pub stat_after : Cycle → Stat
stat_after cycle = stat_on cycle.now.heap.collector
