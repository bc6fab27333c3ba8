-- The share that the mutator is to have of each stretch of a length or longer.
use Rattle.std.specs.Prelude.{◌≡◌, ℕ, ◌*◌, ◌≤◌}
use Rattle.mh_model.specs.{declared.config.Config.Config, Trace.floor}
use Rattle.mh_orders.specs.declared.target_options.Target.{Target}

-- A quantum of at most so many units after so many of the mutator leaves it the share of a target: in each window of its length or longer the floor is at
-- least that share
pub record IsMetBy (target : Target) (every quantum : ℕ) : Type 0 where
  pub each : (window : ℕ) → target.window ≤ window → target.percent * window ≤ 100 * floor every quantum window

-- A configuration has quanta run by the scheduler after so many units of the mutator, and meets a target
pub record MeetsAfter (target : Target) (every : ℕ) (config : Config) : Type 0 where
  pub of_every : config.every ≡ every
  pub scheduled : 1 ≤ config.every
  pub share : IsMetBy target config.every config.quantum

-- A configuration of this quantum has quanta run by the scheduler, and meets a target
pub record MeetsWith (target : Target) (quantum : ℕ) (config : Config) : Type 0 where
  pub of_quantum : config.quantum ≡ quantum
  pub scheduled : 1 ≤ config.every
  pub share : IsMetBy target config.every config.quantum

-- A configuration has quanta run by the scheduler, and meets a target
pub record Meets (target : Target) (config : Config) : Type 0 where
  pub scheduled : 1 ≤ config.every
  pub share : IsMetBy target config.every config.quantum
