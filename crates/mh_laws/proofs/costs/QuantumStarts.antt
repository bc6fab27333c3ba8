-- How a quantum begins: a cycle that is due starts, one that runs is counted, and else nothing changes.
use Rattle.std.proofs.{Common.{◌≡◌, ◌⊎◌, ◌+◌, true, false, arith}, lemmas.Bool.false≢true}
use Rattle.mh_model.specs.{declared.config.Config.Config, declared.cycle.Phase.Phase}
use Rattle.mh_model.specs.declared.cycle.Phase.TheVariants.{Idle}
use Rattle.mh_model.specs.Collector.{Collector, is_idle, is_start_due, cycle_start, quantum_start, quantum}
use Rattle.mh_laws.proofs.costs.Quanta.{steps-idle}

pub idle_is : (phase : Phase) → is_idle phase ≡ true → phase ≡ Idle
idle_is other e = grind arith

-- a cycle starts, or one goes on, or there is none
pub record Begins (config : Config) (c : Collector) : Type 0 where
  pub case : ((is_start_due config c ≡ true) × (c.phase ≡ Idle) × (quantum_start config c ≡ record (cycle_start c) { quanta = 1 }))
      ⊎ (((is_idle c.phase ≡ false) × (quantum_start config c ≡ record c { quanta = c.quanta + 1 })) ⊎ ((is_start_due config c ≡ false) × (c.phase ≡ Idle) × (quantum_start config c ≡ c)))

pub begins : (config : Config) (c : Collector) → Begins config c
begins config c = grind arith

-- A quantum if no cycle runs and none is due changes nothing
pub quantum-rests : (config : Config) (c : Collector) → is_idle c.phase ≡ true → is_start_due config c ≡ false → (quantum config c).collector ≡ c
unfolding quantum
quantum-rests config c idle rests = grind (arith, begins, false≢true, steps-idle)
