-- What the deeds of a cycle come to, kept deed by deed, and what is kept of a cycle that runs.
use Rattle.std.specs.Prelude.{◌≡◌, ℕ, ◌+◌, ◌-◌, ◌*◌, ◌^◌, ◌==◌, ◌≤◌, max, Bool, true, false, not, ◌&&◌, if◌then◌else◌, Option, Some, None, IfSome, List, [], ◌∷◌}
use Rattle.std.specs.List.{sum_by}
use Rattle.mh_model.specs.{declared.command.Event.Event, declared.config.Config.Config, declared.cycle.Phase.Phase}
use Rattle.mh_model.specs.{declared.cycle.Phase.TheVariants.{Idle, Roots, Mark, Sweep, Defrag}, declared.deed.Deed.Deed}
use Rattle.mh_model.specs.{declared.stat.Stat.Stat, Collector.is_idle, Deeds.{Ran, Account, deed_units, account_of}}
use Rattle.mh_model.specs.Machine.{Machine, first_machine, event_step, machine_after, stat_on}
use Rattle.mh_model.specs.{Trace.{mutator_count, collector_count}, declared.command.Control.Control}
use Rattle.mh_tell_laws.specs.Cycles.{marks, makes, opens, shades, frees, drops, empties, comes_to_sparse, moves, words_moved, phase_after_deed, grey_after_deed, was_asked}
use Rattle.mh_tell_cycles.specs.declared.{tally.DeedCounts.DeedCounts, tally.Tally.Tally, tally.Units.Units}
use Rattle.mh_tell_cycles.specs.declared.{underway.BlockCounts.BlockCounts, underway.Underway.Underway}
use Rattle.mh_tell_cycles.specs.declared.watch.Watch.{Watch}

-- Deeds ------------------------------------------------------------------------------------------

-- what one deed counts
abbrev pub counts_of : Deed → DeedCounts
counts_of deed = record {
  marked = marks deed;
  made = makes deed;
  opened = opens deed;
  shaded = shades deed;
  freed = frees deed;
  dropped = drops deed;
  emptied = empties deed;
  sparse = comes_to_sparse deed;
  moved = moves deed;
  words = words_moved deed;
}

-- what two counts come to
abbrev pub counts_sum : DeedCounts → DeedCounts → DeedCounts
counts_sum counts more = record {
  marked = counts.marked + more.marked;
  made = counts.made + more.made;
  opened = counts.opened + more.opened;
  shaded = counts.shaded + more.shaded;
  freed = counts.freed + more.freed;
  dropped = counts.dropped + more.dropped;
  emptied = counts.emptied + more.emptied;
  sparse = counts.sparse + more.sparse;
  moved = counts.moved + more.moved;
  words = counts.words + more.words;
}

-- so many units more of a phase
abbrev pub units_with : Units → Phase → ℕ → Units
units_with units Idle more = units
units_with units Roots more = record units { roots = units.roots + more }
units_with units Mark more = record units { mark = units.mark + more }
units_with units Sweep more = record units { sweep = units.sweep + more }
units_with units Defrag more = record units { defrag = units.defrag + more }

-- nothing yet
abbrev pub no_counts : DeedCounts
no_counts = record { marked = 0; made = 0; opened = 0; shaded = 0; freed = 0; dropped = 0; emptied = 0; sparse = 0; moved = 0; words = 0 }

abbrev pub first_tally : Tally
first_tally = record { phase = Idle; grey = 0; longest = 0; units = record { roots = 0; mark = 0; sweep = 0; defrag = 0 }; counts = no_counts }

-- a deed more, and deeds in order
abbrev pub tally_with : Tally → Deed → Tally
tally_with tally deed = record {
  phase = phase_after_deed tally.phase deed;
  grey = grey_after_deed tally.grey deed;
  longest = max tally.longest (grey_after_deed tally.grey deed);
  units = units_with tally.units tally.phase (deed_units deed);
  counts = counts_sum tally.counts (counts_of deed);
}

abbrev pub tally_all : Tally → List Deed → Tally
tally_all tally [] = tally
tally_all tally (deed ∷ deeds) = tally_all (tally_with tally deed) deeds

-- all that was counted
abbrev pub counts_total : DeedCounts → ℕ
counts_total counts = counts.marked + counts.made + counts.opened + counts.shaded + counts.freed + counts.dropped + counts.emptied + counts.sparse + counts.moved + counts.words

-- no number of a tally is above this
pub record HasRoom (limit : ℕ) (tally : Tally) : Type 0 where
  pub grey : tally.grey ≤ limit
  pub longest : tally.longest ≤ limit
  pub units : (tally.units).roots + (tally.units).mark + (tally.units).sweep + (tally.units).defrag ≤ limit
  pub counts : counts_total tally.counts ≤ limit

-- Cycles -----------------------------------------------------------------------------------------

-- the counts of blocks and pages
abbrev pub blocks_of_stat : Stat → BlockCounts
blocks_of_stat stat = record { free = stat.free; live = stat.live; old = stat.old }

-- a cycle with a quantum more, if one was run
abbrev pub with_quantum : Underway → Option Ran → Underway
with_quantum cycle None = cycle
with_quantum cycle (Some ran) = record cycle { quanta = cycle.quanta + 1; greatest = max cycle.greatest ran.ended.units; tally = tally_all cycle.tally ran.deeds }

-- a cycle with what an event did
abbrev pub with_account : Underway → Account → Underway
with_account cycle account = with_quantum (record cycle { tally = tally_all cycle.tally account.command }) account.quantum

-- what a quantum spent, if one was run
abbrev pub spent_by : Option Ran → ℕ
spent_by None = 0
spent_by (Some ran) = ran.ended.units

-- the counts of blocks and pages after the deeds of a command
abbrev pub blocks_after : Stat → List Deed → BlockCounts
blocks_after stat command = record { free = stat.free - sum_by opens command; live = stat.live + sum_by makes command; old = stat.old }

-- the cycle that the quantum of this event starts: from what was known before the event, the machine after it, and what it did
abbrev pub underway_from : ℕ → Watch → Machine → Account → Underway
underway_from number watch machine account = with_quantum (record {
  number = watch.stat.cycle + 1;
  first = number;
  is_asked = watch.is_asked;
  mutator = mutator_count machine.trace.letters;
  collector = collector_count machine.trace.letters - spent_by account.quantum;
  before = blocks_after watch.stat account.command;
  quanta = 0;
  greatest = 0;
  tally = first_tally;
}) account.quantum

-- Watches ----------------------------------------------------------------------------------------

-- a cycle is asked for after an event, if it was before it, by whether the event starts one
abbrev pub asked_after : Bool → Event → Bool → Bool
asked_after was_asked (Event.Control Control.Start) starts = true
asked_after was_asked event starts = was_asked && not starts

-- the cycle that runs after an event, or that its quantum ends
abbrev pub cycle_after : Option Underway → Bool → Underway → Account → Option Underway
cycle_after None true begun account = Some begun
cycle_after None false begun account = None
cycle_after (Some cycle) starts begun account = Some (with_account cycle account)

-- a cycle has started between two counts of the heap
abbrev pub starts_between : Stat → Stat → Bool
starts_between old new = not (new.cycle == old.cycle)

-- what is known after an event of this number, which left this machine and did this, before a cycle that it ended is forgotten
abbrev pub watch_noted : ℕ → Watch → Event → Machine → Account → Watch
watch_noted number watch event machine account =
    let stat = stat_on machine.heap.collector in
    let starts = starts_between watch.stat stat in
    record { cycle = cycle_after watch.cycle starts (underway_from number watch machine account) account; is_asked = asked_after watch.is_asked event starts; stat = stat }

-- what is known once a cycle that has ended is forgotten
abbrev pub watch_closed : Watch → Watch
watch_closed watch = if is_idle watch.stat.phase then record watch { cycle = None } else watch

-- what is known after an event of this number
abbrev pub watch_next : ℕ → Watch → Machine → Event → Watch
watch_next number watch machine event = watch_closed (watch_noted number watch event (event_step machine event).state (account_of machine event))

-- what is known before the first event
abbrev pub first_watch : Stat → Watch
first_watch stat = record { cycle = None; is_asked = false; stat = stat }

-- a machine of a run
abbrev pub IsOfRun : Machine → Type 0
IsOfRun machine = (config : Config) × (events : List Event) × (machine ≡ machine_after (first_machine config) events)

-- a cycle was kept through no more than so many events, up to this machine: no number is too large, and the units before it are no more than those now
pub record IsWithin (count : ℕ) (machine : Machine) (cycle : Underway) : Type 0 where
  pub room : HasRoom (count * 2 ^ 70) cycle.tally
  pub quanta : cycle.quanta ≤ count
  pub mutator : cycle.mutator ≤ mutator_count machine.trace.letters
  pub collector : cycle.collector ≤ collector_count machine.trace.letters

-- what is known between two events of a run: what is in the heap, whether a cycle is asked for, and a cycle within its events
pub record Watches (count : ℕ) (machine : Machine) (watch : Watch) : Type 0 where
  pub of_run : IsOfRun machine
  pub stat : watch.stat ≡ stat_on machine.heap.collector
  pub cycle : IfSome watch.cycle (IsWithin count machine)
