-- Quanta: what they spend, what their steps cost, and that the count of steps never runs out.
use Rattle.std.proofs.Common.{◌≡◌, ℕ, zero, suc, ◌-◌, ◌<◌, ◌≤◌, Bool, true, false, ◌||◌, nat_lt, inl, inr, refl, sym, ap, ◌∙◌, arith}
use Rattle.std.proofs.lemmas.Bool.{cases_Bool, ltb-false, or_parts, true_from_ne_false}
use Rattle.mh_model.specs.{declared.config.Config.Config, declared.cycle.Phase.Phase}
use Rattle.mh_model.specs.Collector.{Collector, cost_in, step_cost, is_moving, collector_step, is_idle, with_units, quantum_start, steps, quantum}
use Rattle.mh_model.specs.Limits.{least_quantum}
use Rattle.mh_table_laws.specs.Tables.{IsSized}

-- steps stop, or one is taken
pub steps-stop : (more left : ℕ) (has_moved : Bool) (collector : Collector) → (is_idle collector.phase || nat_lt left (step_cost collector has_moved)) ≡ true → steps (suc more) left has_moved collector ≡ record { units = 0; collector = collector }
unfolding steps
steps-stop more left has_moved collector stops = rw (stops, steps)

pub steps-go : (more left : ℕ) (has_moved : Bool) (collector : Collector) → (is_idle collector.phase || nat_lt left (step_cost collector has_moved)) ≡ false
    → steps (suc more) left has_moved collector ≡ with_units (step_cost collector has_moved) (steps more (left - step_cost collector has_moved) (has_moved || is_moving collector) (collector_step collector))
unfolding steps
steps-go more left has_moved collector goes = rw (goes, steps)

-- steps spend no more than what is left
units-steps : (more left : ℕ) (has_moved : Bool) (collector : Collector) → (steps more left has_moved collector).units ≤ left
unfolding steps
units-steps zero left has_moved collector = omega arith
units-steps (suc more) left has_moved collector = elim (cases_Bool (is_idle collector.phase || nat_lt left (step_cost collector has_moved))) [
  | inl stops ↦ rw (steps-stop more left has_moved collector stops) (omega arith)
  | inr goes ↦
      let fits : step_cost collector has_moved ≤ left = ltb-false left (step_cost collector has_moved) (or_parts (is_idle collector.phase) (nat_lt left (step_cost collector has_moved)) goes).1 in
      let rest = units-steps more (left - step_cost collector has_moved) (has_moved || is_moving collector) (collector_step collector) in
      rw (steps-go more left has_moved collector goes) (omega arith)
]

-- No quantum spends more than is configured
pub units-quantum : (config : Config) (collector : Collector) → (quantum config collector).units ≤ config.quantum
unfolding quantum
units-quantum config collector = units-steps config.quantum config.quantum false (quantum_start config collector)

-- Costs ------------------------------------------------------------------------------------------

cost_in-positive : (phase : Phase) (collector : Collector) (has_moved : Bool) → is_idle phase ≡ false → 0 < cost_in phase collector has_moved
cost_in-positive phase collector has_moved runs = grind arith

-- While a cycle runs the next step costs at least 1
pub step_cost-positive : (collector : Collector) (has_moved : Bool) → is_idle collector.phase ≡ false → 0 < step_cost collector has_moved
unfolding step_cost
step_cost-positive collector has_moved runs = cost_in-positive collector.phase collector has_moved runs

cost_in-bounded : (phase : Phase) (collector : Collector) (has_moved : Bool) → IsSized collector.table → cost_in phase collector has_moved ≤ least_quantum
cost_in-bounded other collector has_moved sized = grind arith

-- The dearest step costs 209
pub step_cost-bounded : (collector : Collector) (has_moved : Bool) → IsSized collector.table → step_cost collector has_moved ≤ least_quantum
unfolding step_cost
step_cost-bounded collector has_moved sized = cost_in-bounded collector.phase collector has_moved sized

-- no step is taken if no cycle runs
pub steps-idle : (more left : ℕ) (has_moved : Bool) (collector : Collector) → is_idle collector.phase ≡ true → steps more left has_moved collector ≡ record { units = 0; collector = collector }
unfolding steps
steps-idle more left has_moved collector idle = grind arith

-- The count of steps -----------------------------------------------------------------------------

stops_at_nothing : (collector : Collector) (has_moved : Bool) (left : ℕ) → left ≡ 0 → (is_idle collector.phase || nat_lt left (step_cost collector has_moved)) ≡ false → ⊥
stops_at_nothing collector has_moved left nothing goes = grind (arith, or_parts, ltb-false, step_cost-positive)

-- Any two counts that are no less than what is left give the same steps, so the count bounds nothing
pub steps-enough : (more more' left : ℕ) (has_moved : Bool) (collector : Collector) → left ≤ more → left ≤ more' → steps more left has_moved collector ≡ steps more' left has_moved collector
unfolding steps
steps-enough zero zero left has_moved collector h h' = refl
steps-enough zero (suc more') left has_moved collector h h' = grind (arith, steps-stop, true_from_ne_false, stops_at_nothing)
steps-enough (suc more) zero left has_moved collector h h' = grind (arith, steps-stop, true_from_ne_false, stops_at_nothing)
steps-enough (suc more) (suc more') left has_moved collector h h' = elim (cases_Bool (is_idle collector.phase || nat_lt left (step_cost collector has_moved))) [
  | inl stops ↦ steps-stop more left has_moved collector stops ∙ sym (steps-stop more' left has_moved collector stops)
  | inr goes ↦
      let (runs, fits) = or_parts (is_idle collector.phase) (nat_lt left (step_cost collector has_moved)) goes in
      let positive : 0 < step_cost collector has_moved = step_cost-positive collector has_moved runs in
      let rest = steps-enough more more' (left - step_cost collector has_moved) (has_moved || is_moving collector) (collector_step collector) (omega arith) (omega arith) in
      steps-go more left has_moved collector goes ∙ ap (with_units (step_cost collector has_moved)) rest ∙ sym (steps-go more' left has_moved collector goes)
]
