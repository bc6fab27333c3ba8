-- The configuration that numbers are.
use Rattle.std.specs.Prelude.{ℕ, Option, option_and_then}
use Rattle.mh_model.specs.{declared.config.Config.Config, Configs.configured_under, HistoryTexts.rules_of}
use Rattle.mh_model.specs.Limits.{least_quantum}

-- the configuration with these numbers, under the rules with this number
abbrev pub numbered_config : ℕ → ℕ → ℕ → ℕ → ℕ → Option Config
numbered_config pages quantum trigger every rules = option_and_then (λ r. configured_under r pages quantum trigger every) (rules_of rules)

-- a configuration under these rules, which are all that a world has of one
abbrev pub world_config : ℕ → Option Config
world_config rules = numbered_config 1 least_quantum 0 0 rules
