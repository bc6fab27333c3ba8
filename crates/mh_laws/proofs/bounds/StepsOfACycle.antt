-- A cycle takes so many steps and units, whatever commands come between its steps.
use Rattle.std.proofs.Common.{◌≡◌, suc, ◌+◌, ◌≤◌, true, false, inl, inr, List, [], ◌∷◌, sym, subst, arith}
use Rattle.std.proofs.lemmas.Bool.{cases_Bool}
use Rattle.mh_model.specs.declared.config.Config.{Config}
use Rattle.mh_model.specs.Collector.{Collector, cycle_start, cost_in, collector_step, is_idle}
use Rattle.mh_model.specs.{Mutator.{HeapState, mutator_step}, Bound.{most_steps, most_units}}
use Rattle.mh_model.specs.CycleBounds.{steps_left, units_left, IsUnderway, IsInBounds}
use Rattle.mh_laws.specs.Deeds.{Deed, Step, Perform, with_step, heap_after, step_count, cost_of, with_cycle, CycleTakesBoundedSteps}
use Rattle.mh_laws.proofs.{commands.LeftUnchanged.mutator_step-course, bounds.CommandsKeepBounds.mutator_step-carried}
use Rattle.mh_laws.proofs.bounds.WorkLeft.{steps_left-positive, collector_step-paid}
use Rattle.mh_laws.proofs.bounds.CycleBounds.{carried-leaves}
use Rattle.mh_laws.proofs.bounds.CyclesInTime.{IsFresh, cycle_start-fresh, idle-left, half-stays}

-- a step of an idle collector does nothing, and costs nothing
pub step-idle : (collector : Collector) → is_idle collector.phase ≡ true → (collector_step collector ≡ collector) × (cost_in collector.phase collector true ≡ 0)
unfolding collector_step
step-idle collector idle = grind arith

-- a step keeps a collector on its way
pub step-under : (collector : Collector) → IsUnderway collector → IsUnderway (collector_step collector)
step-under collector under = elim (cases_Bool (is_idle collector.phase)) [
  | inl idle ↦ subst IsUnderway (sym (step-idle collector idle).0) under
  | inr runs ↦ (collector_step-paid collector under runs).under
]

-- what is left after deeds, and what their steps took
pub record Took (heap : HeapState) (deeds : List Deed) : Type 0 where
  pub under : IsUnderway (heap_after heap deeds).collector
  pub steps : is_idle (heap_after heap deeds).collector.phase ≡ false → steps_left (heap_after heap deeds).collector.phase (heap_after heap deeds).collector + step_count deeds ≤ steps_left heap.collector.phase heap.collector
  pub units : cost_of heap deeds ≤ units_left heap.collector.phase heap.collector

-- the same of a step and then deeds, from the heap after the step
record LeftAfter (heap : HeapState) (deeds : List Deed) (next : HeapState) : Type 0 where
  pub under : IsUnderway (heap_after next deeds).collector
  pub steps : is_idle (heap_after next deeds).collector.phase ≡ false → steps_left (heap_after next deeds).collector.phase (heap_after next deeds).collector + suc (step_count deeds) ≤ steps_left heap.collector.phase heap.collector
  pub units : cost_in heap.collector.phase heap.collector true + cost_of next deeds ≤ units_left heap.collector.phase heap.collector

pub deeds-took : (deeds : List Deed) (heap : HeapState) → IsUnderway heap.collector → Took heap deeds
deeds-took [] heap under = grind arith
deeds-took (Step ∷ deeds) heap under = elim (cases_Bool (is_idle heap.collector.phase)) [
  | inl idle ↦ search (arith, step-idle, idle-left, steps_left-positive, deeds-took deeds heap under)
  | inr runs ↦
      let paid = collector_step-paid heap.collector under runs in
      let rest = deeds-took deeds (with_step heap) paid.under in
      record { under = rest.under; steps = λ running. omega (arith, paid.steps_paid, rest.steps running); units = omega (arith, paid.units_paid, rest.units) }
]
deeds-took (Perform who command ∷ deeds) heap under =
    let new : HeapState = (mutator_step heap who command).state in
    let leaves = carried-leaves heap.collector new.collector (mutator_step-course heap who command) (mutator_step-carried heap who command under.sound) under in
    let rest = deeds-took deeds new leaves.under in
    record { under = rest.under; steps = λ running. omega (arith, leaves.steps, rest.steps running); units = omega (arith, leaves.units, rest.units) }

module _ (config : Config) (heap : HeapState) (bounds : IsInBounds config heap.collector) (deeds : List Deed) where
  abbrev fresh : IsFresh config (cycle_start heap.collector)
  fresh = cycle_start-fresh config heap.collector bounds

  abbrev took : Took (with_cycle heap) deeds
  took = deeds-took deeds (with_cycle heap) fresh.under

  cycle-ends : most_steps config ≤ step_count deeds → is_idle (heap_after (with_cycle heap) deeds).collector.phase ≡ true
  cycle-ends many = elim (cases_Bool (is_idle (heap_after (with_cycle heap) deeds).collector.phase)) [
    | inl idle ↦ idle
    | inr runs ↦ absurd (omega (arith, took.steps runs, fresh.steps, steps_left-positive (heap_after (with_cycle heap) deeds).collector took.under runs))
  ]

  cycle-spends : cost_of (with_cycle heap) deeds ≤ most_units config
  cycle-spends = omega (arith, took.units, fresh.units)

-- A cycle takes no more steps and units than its most
pub cycle_takes : CycleTakesBoundedSteps
cycle_takes = record {
  ends = λ config events event deeds many. cycle-ends config _ (half-stays config events event).bounds deeds many;
  spends = λ config events event deeds. cycle-spends config _ (half-stays config events event).bounds deeds;
}
