-- Forwarders: a cycle of a run leaves only those that its own defragmentation made.
use Rattle.std.specs.Prelude.{◌≡◌, true, List, [], ◌∷◌, ◌++◌}
use Rattle.mh_model.specs.{declared.config.Config.Config, declared.command.Event.Event, Collector.{Collector, is_idle}}
use Rattle.mh_model.specs.{Machine.{first_machine, half_step, machine_after}, Snapshot.has_quantum}
use Rattle.mh_run_laws.specs.BesideTheWorld.{IsInCycle}
use Rattle.mh_laws.specs.Forwarders.{BeginsToDefragment, IsMadeSince}

-- within a quantum of a run of these events a defragmentation began, with this collector
pub record HasBegun (config : Config) (events : List Event) (begun : Collector) : Type 0 where
  pub before : List Event
  pub event : Event
  pub later : List Event
  pub split : events ≡ before ++ event ∷ later
  pub runs : has_quantum (machine_after (first_machine config) before) event ≡ true
  pub begins : let heap = (half_step (machine_after (first_machine config) before) event).heap in BeginsToDefragment heap.config heap.collector begun

-- a collector of a run whose forwarders were all made since the defragmentation of its cycle began, in a quantum of these events
abbrev pub AreOfItsCycle : Config → List Event → Collector → Type 0
AreOfItsCycle config events collector = (begun : Collector) × HasBegun config events begun × IsMadeSince begun collector

-- If a quantum of a run ends its cycle, the cycle's defragmentation began in it or in an earlier one. At the place of each forwarder that the cycle
-- leaves there was none then
abbrev pub FinishedCyclesMadeTheirForwarders : Type 0
FinishedCyclesMadeTheirForwarders = (config : Config) (events : List Event) (event : Event) → has_quantum (machine_after (first_machine config) events) event ≡ true →
    let heap = (half_step (machine_after (first_machine config) events) event).heap in
    let after = (machine_after (first_machine config) (events ++ event ∷ [])).heap.collector in
    IsInCycle heap → is_idle after.phase ≡ true → AreOfItsCycle config (events ++ event ∷ []) after
