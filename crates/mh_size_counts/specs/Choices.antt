-- The least or the greatest number of a configuration that has a property.
use Rattle.std.specs.Prelude.{◌≡◌, ℕ, ◌≤◌}
use Rattle.mh_model.specs.declared.config.Config.{Config}

-- no configuration has a property
abbrev pub HasNone : (Config → Type 0) → Type 0
HasNone P = (config : Config) → P config → ⊥

-- some configuration with a property has this quantum, and none has a greater one
pub record IsGreatestQuantum (P : Config → Type 0) (quantum : ℕ) : Type 0 where
  pub has : (config : Config) × (config.quantum ≡ quantum) × P config
  pub greatest : (config : Config) → P config → config.quantum ≤ quantum

-- some configuration with a property runs a quantum after so many units of the mutator, and none after fewer
pub record IsLeastEvery (P : Config → Type 0) (every : ℕ) : Type 0 where
  pub has : (config : Config) × (config.every ≡ every) × P config
  pub least : (config : Config) → P config → every ≤ config.every
