-- Forwarders: a quantum leaves only those that its own defragmentation made.
use Rattle.std.specs.Prelude.{◌≡◌, ◌⊎◌, ℕ, suc, true, false, Some, None}
use Rattle.mh_model.specs.{declared.config.Config.Config, declared.cycle.Phase.TheVariants.{Sweep, Defrag}, Pages.Table}
use Rattle.mh_model.specs.Table.{Block, forward_at}
use Rattle.mh_model.specs.Collector.{Collector, is_idle, is_start_due, quantum_start, steps, quantum}
use Rattle.mh_model.specs.Invariant.{in_trace, IsSteady}

-- the collector after so many steps of a quantum, or after all of them if it takes fewer
abbrev pub after_steps : Config → Collector → ℕ → Collector
after_steps config collector count = (steps count config.quantum false (quantum_start config collector)).collector

-- within a quantum a defragmentation begins, with this collector: the step before it swept
pub record BeginsToDefragment (config : Config) (collector begun : Collector) : Type 0 where
  pub count : ℕ
  pub sweeps : (after_steps config collector count).phase ≡ Sweep
  pub is : after_steps config collector (suc count) ≡ begun
  pub defragments : begun.phase ≡ Defrag

-- a table with forwarders only at places at which an earlier one had none: there it had no block, or one that was no forwarder
abbrev pub ForwardersAreNew : Table Block → Table Block → Type 0
ForwardersAreNew earlier table = (place target : ℕ) → forward_at table place ≡ Some target → forward_at earlier place ≡ None

-- a collector of the cycle whose defragmentation began with an earlier one, and whose forwarders were made since
pub record IsMadeSince (begun collector : Collector) : Type 0 where
  pub cycle : begun.cycle ≡ collector.cycle
  pub forwarders : ForwardersAreNew begun.table collector.table

-- what a quantum leaves of forwarders: when a defragmentation begins within it, no block is one. If it leaves a cycle in defragmentation or ended, it
-- was entered in that cycle's defragmentation; or this begins within it, and each forwarder was made since
pub record MakesItsForwarders (config : Config) (old new : Collector) : Type 0 where
  pub begins : (begun : Collector) → BeginsToDefragment config old begun → (place : ℕ) → forward_at begun.table place ≡ None
  pub reaches : in_trace new.phase ≡ false → (is_idle old.phase ≡ false) ⊎ (is_start_due config old ≡ true)
      → ((old.phase ≡ Defrag) × (old.cycle ≡ new.cycle)) ⊎ ((begun : Collector) × BeginsToDefragment config old begun × IsMadeSince begun new)

-- When a defragmentation begins within a quantum of a steady collector, no block is a forwarder. A quantum that leaves a cycle in defragmentation or
-- ended was entered in that cycle's defragmentation; or this begins within it, and each forwarder was made since
abbrev pub QuantaMakeTheirForwarders : Type 0
QuantaMakeTheirForwarders = (config : Config) (collector : Collector) → IsSteady collector → MakesItsForwarders config collector (quantum config collector).collector
