-- What keeps a run from being full.
use Rattle.std.specs.Prelude.{ℕ, ◌≤◌, List}
use Rattle.mh_model.specs.{declared.command.Event.Event, declared.config.Config.Config, World.first_world}
use Rattle.mh_model.specs.{Bound.most_quanta, Machine.{first_machine, machine_replies}}
use Rattle.mh_model.specs.Intervals.{AnswerAsTheWorld, CyclesTakeAtMost, IsNeverFull}
use Rattle.mh_size_laws.specs.{Room.HasRoomInARow, Rates.{Grows, HasRoomAtRate, KeepToRate, LeaveInUse}}

-- No cycle takes more quanta than its bound. A run is never full that has room for as many intervals in a row as its cycles take quanta; nor is one, from
-- the opening on, in a heap with room at the rate to which its sessions keep. The replies of a run that is never full are those of a heap that never
-- collects or moves, which is given every command
pub record RoomIsEnough (config : Config) (events : List Event) : Type 0 where
  pub bound : CyclesTakeAtMost (most_quanta config) config events
  pub room : (quanta : ℕ) → 1 ≤ quanta → CyclesTakeAtMost quanta config events → HasRoomInARow config events quanta → IsNeverFull config events
  pub rate : (allowed : ℕ → ℕ → ℕ) (most quanta used : ℕ) → Grows allowed → 1 ≤ quanta → HasRoomAtRate allowed most quanta used config
      → KeepToRate allowed most config events → CyclesTakeAtMost quanta config events → LeaveInUse used config events → IsNeverFull config events
  pub worlds : IsNeverFull config events → AnswerAsTheWorld (first_world config) events (machine_replies (first_machine config) events)

-- Room is enough in each run, of any configuration and any events
abbrev pub EachRunHasItsRoom : Type 0
EachRunHasItsRoom = (config : Config) (events : List Event) → RoomIsEnough config events
