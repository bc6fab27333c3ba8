-- At every moment of a run the table has such sizes that no step costs more than 209.
use Rattle.mh_model.specs.{declared.config.Config.Config, Collector.Collector, CycleBounds.IsInBounds}
use Rattle.mh_table_laws.specs.Tables.{IsSized}
use Rattle.mh_laws.specs.Costs.{DearestStepCosts209}
use Rattle.mh_table_laws.proofs.tables.BlockRoom.{roomy-sized}
use Rattle.mh_laws.proofs.{costs.Quanta.step_cost-bounded, bounds.CyclesInTime.{run-stays, half-stays}}

-- the pages of a collector within the bounds of its cycle are roomy, and so of such sizes
bounds-sized : (config : Config) (collector : Collector) → IsInBounds config collector → IsSized collector.table
bounds-sized config collector bounds = roomy-sized collector.table ((bounds.under).sound).roomy

-- The dearest step costs 209
pub dearest_step : DearestStepCosts209
dearest_step = record {
  costs = step_cost-bounded;
  in_bounds = bounds-sized;
  after_events = λ config events. bounds-sized config _ (run-stays config events).bounds;
  after_commands = λ config events event. bounds-sized config _ (half-stays config events event).bounds;
}
