-- A collector with its configuration, and what holds of its parts at each moment.
use Rattle.mh_model.specs.{declared.config.Config.Config, Collector.{Collector, first_collector}}

-- a collector with its configuration
pub record CycleState : Type 0 where
  pub config : Config
  pub collector : Collector

-- the same configuration with another collector
abbrev pub state_with_collector : CycleState → Collector → CycleState
state_with_collector state collector = record state { collector = collector }

-- the first collector with its configuration
abbrev pub first_state : Config → CycleState
first_state config = record { config = config; collector = first_collector config }
