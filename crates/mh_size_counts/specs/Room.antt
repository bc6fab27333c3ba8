-- Heaps with room for all programs of which some counts are known.
use Rattle.std.specs.Prelude.{◌≡◌, ℕ, ◌+◌, ◌-◌, ◌≤◌, List}
use Rattle.mh_model.specs.{declared.command.Event.Event, declared.config.Config.Config, Bound.most_quanta}
use Rattle.mh_model.specs.Intervals.{CyclesTakeAtMost, IsNeverFull}
use Rattle.mh_orders.specs.declared.room_options.{CycleLength.CycleLength, CycleLength.TheVariants.{Quanta, Quantum}}
use Rattle.mh_orders.specs.declared.room_options.RoomOptions.{RoomOptions}
use Rattle.mh_size_laws.specs.Rates.{KeepToRate, LeaveInUse, interval_units, opens_at_rate}
use Rattle.mh_size_counts.specs.{Rates.allowed_by, declared.room.RoomHeap.RoomHeap}

-- the most pages that so many intervals in a row open at the rates
unfoldable pub opens_in : RoomOptions → ℕ → ℕ
opens_in options quanta = opens_at_rate (allowed_by options.rates) (interval_units options.every options.most_parts) quanta

-- how many quanta a cycle of a configuration takes at most: so many, or its bound
abbrev pub cycle_quanta : CycleLength → Config → ℕ
cycle_quanta (Quanta quanta) config = quanta
cycle_quanta (Quantum quantum) config = most_quanta config

-- a configuration has the quantum that is given, if one is
abbrev pub HasQuantum : CycleLength → Config → Type 0
HasQuantum (Quanta quanta) config = Unit {0}
HasQuantum (Quantum quantum) config = config.quantum ≡ quantum

-- A configuration has room: its pages for those that cycles leave in use and for what as many intervals in a row open as a cycle has quanta, and its trigger
-- and one more for what they open
pub record HasRoom (options : RoomOptions) (config : Config) : Type 0 where
  pub every : config.every ≡ options.every
  pub quantum : HasQuantum options.length config
  pub pages : options.used + opens_in options (cycle_quanta options.length config) ≤ config.pages
  pub trigger : opens_in options (cycle_quanta options.length config) ≤ config.trigger + 1

-- A heap is that of a configuration with room, and none with fewer pages has room. Its trigger is one less than what opens
pub record IsRoomHeap (options : RoomOptions) (heap : RoomHeap) : Type 0 where
  pub config : Config
  pub has : HasRoom options config
  pub pages : heap.pages ≡ config.pages
  pub fewest : (other : Config) → HasRoom options other → heap.pages ≤ other.pages
  pub opens : heap.opens ≡ opens_in options (cycle_quanta options.length config)
  pub trigger : heap.trigger ≡ heap.opens - 1

-- the cycles of a run take as many quanta as was said: so many at most, or those of a quantum in just the pages of a heap
abbrev pub KeepToLength : CycleLength → RoomHeap → Config → List Event → Type 0
KeepToLength (Quanta quanta) heap config events = CyclesTakeAtMost quanta config events
KeepToLength (Quantum quantum) heap config events = (config.quantum ≡ quantum) × (config.pages ≡ heap.pages)

-- No program is full in a heap, nor in one with more pages or a greater trigger, that keeps to the rates, whose cycles take as many quanta as was said, and leave
-- at most so many pages in use
abbrev pub IsRoomForAll : RoomOptions → RoomHeap → Type 0
IsRoomForAll options heap = (config : Config) (events : List Event) → heap.pages ≤ config.pages → heap.trigger ≤ config.trigger → config.every ≡ options.every
    → KeepToRate (allowed_by options.rates) options.most_parts config events → KeepToLength options.length heap config events → LeaveInUse options.used config events
    → IsNeverFull config events
