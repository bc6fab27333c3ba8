-- What is live in a run: what whole cycles leave, one at each quantum.
use Rattle.std.specs.Prelude.{◌≡◌, ℕ, ◌+◌, ◌-◌, ◌*◌, ◌/◌, true, Option, None, Some, IsSomeAnd, length, max, drop, take, map, List, [], ◌∷◌}
use Rattle.mh_model.specs.{declared.command.Event.Event, declared.config.Config.Config, Collector.is_idle}
use Rattle.mh_model.specs.{Configs.configured_under, Intervals.cycle_ends}
use Rattle.mh_model.specs.{Machine.{Machine, first_machine, event_step, machine_after, stat_on}, Trace.mutator_count}
use Rattle.mh_size_runs.specs.{declared.live.Live.Live, Seen.greatest}

-- the heap in which a cycle starts at each quantum and has the most units: the most pages, and as great a trigger. Of a long
-- run a thousand quanta are enough.
abbrev pub widest : Config → ℕ → Option Config
widest config count = configured_under config.rules 4096 1000000 4096 (max config.every (count / 1000))

-- how many blocks of a machine aren't forwarders
abbrev pub live_blocks : Machine → ℕ
live_blocks machine = (stat_on machine.heap.collector).live

-- the most blocks that cycles leave which end in these events
abbrev pub most_left : Machine → List Event → ℕ
most_left machine events = greatest (map live_blocks (cycle_ends machine events))

-- no cycle runs after any of these events: each has ended in the quantum that started it
abbrev pub AreWhole : Machine → List Event → Type 0
AreWhole machine [] = Unit {0}
AreWhole machine (event ∷ events) =
    let next = (event_step machine event).state in
    (is_idle next.heap.collector.phase ≡ true) × AreWhole next events

-- where the quarter of this number begins among so many events
abbrev pub quarter_start : ℕ → ℕ → ℕ
quarter_start count number = count * number / 4

-- the events of a quarter, and the machine before them
abbrev pub quarter_of : List Event → ℕ → List Event
quarter_of events number =
    let start = quarter_start (length events) number in
    take (quarter_start (length events) (number + 1) - start) (drop start events)

-- the most that is live in each quarter of these events, as cycles find it
abbrev pub quarters_of : Machine → List Event → List ℕ
quarters_of machine events = map (λ number. most_left (machine_after machine (take (quarter_start (length events) number) events)) (quarter_of events number)) (0 ∷ 1 ∷ 2 ∷ 3 ∷ [])

-- what is live is known if each cycle is whole
abbrev pub AreQuartersFrom : Machine → List Event → Option (List ℕ) → Type 0
AreQuartersFrom machine events None = AreWhole machine events → ⊥
AreQuartersFrom machine events (Some quarters) = AreWhole machine events × (quarters ≡ quarters_of machine events)

-- What is seen of a run in the widest heap: what is live by quarters, the units of the mutator, and how many objects were made
pub record IsSeenLive (heap : Config) (events : List Event) (live : Live) : Type 0 where
  pub quarters : AreQuartersFrom (first_machine heap) events live.quarters
  pub units : live.units ≡ mutator_count (machine_after (first_machine heap) events).trace.letters
  pub objects : live.objects ≡ (machine_after (first_machine heap) events).heap.next_birth

abbrev pub IsLive : Config → List Event → Live → Type 0
IsLive config events live = IsSomeAnd (widest config (length events)) (λ heap. IsSeenLive heap events live)
