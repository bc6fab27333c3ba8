use Rattle.std.proofs.Common.{◌≡◌, ◌+◌, ◌-◌}
use Rattle.mh_model.specs.{Mutator.with_roots_cleared, Invariant.IsSteady}
use Rattle.mh_paged.proofs.lent.clear_roots.Given as goal

abbrev pub invariant-loop-slot : goal.invariant-loop-slot
invariant-loop-slot l = (l.cycle.config ≡ l.initial.cycle.config) × (with_roots_cleared l.cycle.collector l.slot (l.fn.first + 16 - l.slot) ≡ with_roots_cleared l.initial.cycle.collector l.fn.first 16) × IsSteady l.cycle.collector
