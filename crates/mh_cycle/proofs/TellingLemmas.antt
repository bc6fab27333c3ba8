-- Deeds of a quantum told a part at a time, to any log.
use Rattle.std.proofs.Common.{◌≡◌, ℕ, ◌+◌, ◌-◌, ◌≤◌, ◌||◌, Bool, true, false, if◌then◌else◌, List, ◌++◌, Option, refl, sym, ap, ◌∙◌, subst, arith}
use Rattle.mh_model.specs.{declared.cycle.Phase.Phase, declared.cycle.Phase.TheVariants.{Idle, Defrag}}
use Rattle.mh_model.specs.declared.deed.Deed.{Deed}
use Rattle.mh_model.specs.Collector.{Collector, is_idle, is_moving, is_past, next_move, next_place, flagged_page, step_cost, collector_step, quantum_start}
use Rattle.mh_model.specs.Deeds.{deeds_in, enter_deeds, step_deeds, deeds_of_steps, start_deeds, quantum_deeds}
use Rattle.mh_deeds.specs.{Logs.Told, Auxiliary.Leads}
use Rattle.mh_deeds.proofs.ToldLemmas.{told-then}
use Rattle.mh_defrag.specs.Moves.{moved}
use Rattle.mh_cycle.specs.{State.{CycleState, state_with_collector}, Auxiliary.with_slots}
use Rattle.mh_cycle.proofs.DeedLemmas.{deeds-next}
use Rattle.mh_cycle.proofs.StepLemmas.{defrag-is, defrag-parts, defrag_next, shifted, slots_moved}
use Rattle.mh_cycle.proofs.ToldLemmas.{quantum-deeds}

module _ {Log : Type 0} (has : List Deed → Log → Type 0) where
  -- the deeds of a step are those of its phase, and that of the phase which it enters
  pub step-told : (c : Collector) (moved : Bool) (before after : Phase) (old now new : Log) → before ≡ c.phase → after ≡ (collector_step c).phase → Told has old (deeds_in c.phase c moved) now → Told has now (enter_deeds before after) new → Told has old (step_deeds c moved) new
  unfolding step_deeds
  step-told c moved before after old now new was is first last =
      told-then has old now new (deeds_in c.phase c moved) (enter_deeds c.phase (collector_step c).phase) first (subst (λ deeds. Told has now deeds new) (ap (λ p. enter_deeds p after) was ∙ ap (enter_deeds c.phase) is) last)

  pub leads-starts : (left : ℕ) (c : Collector) (log : Log) → Leads has log (deeds_of_steps left left false c) log (deeds_of_steps (left - 0) (left - 0) false c)
  leads-starts left c log = let whole : left - 0 ≡ left = omega arith in rw whole (λ end rest. rest)

  -- one step
  pub leads-one : (left cost : ℕ) (moved moves : Bool) (now new : Collector) (log after : Log) → is_idle now.phase ≡ false → cost ≡ step_cost now moved → cost ≤ left → moves ≡ (moved || is_moving now) → new ≡ collector_step now
      → Told has log (step_deeds now moved) after → Leads has log (deeds_of_steps left left moved now) after (deeds_of_steps (left - cost) (left - cost) moves new)
  leads-one left cost moved moves now new log after runs price fits moving is told end rest =
      let next : deeds_of_steps left left moved now ≡ step_deeds now moved ++ deeds_of_steps (left - cost) (left - cost) moves new =
      deeds-next left moved now runs (subst (λ n. n ≤ left) price fits)
      ∙ ap (λ n. step_deeds now moved ++ deeds_of_steps (left - n) (left - n) (moved || is_moving now) (collector_step now)) (sym price)
      ∙ ap (λ m. step_deeds now moved ++ deeds_of_steps (left - cost) (left - cost) m (collector_step now)) (sym moving)
      ∙ ap (λ c. step_deeds now moved ++ deeds_of_steps (left - cost) (left - cost) moves c) (sym is) in
      subst (λ deeds. Told has log deeds end) (sym next) (told-then has log after end (step_deeds now moved) (deeds_of_steps (left - cost) (left - cost) moves new) told rest)

  -- some steps more
  pub leads-then : (left spent cost : ℕ) (moved moves : Bool) (now new : Collector) (all : List Deed) (start log after : Log) → Leads has start all log (deeds_of_steps (left - spent) (left - spent) moved now)
      → Leads has log (deeds_of_steps (left - spent) (left - spent) moved now) after (deeds_of_steps (left - spent - cost) (left - spent - cost) moves new) → Leads has start all after (deeds_of_steps (left - (spent + cost)) (left - (spent + cost)) moves new)
  leads-then left spent cost moved moves now new all start log after so_far more end rest = grind arith

  -- one step more
  pub leads-step : (left spent cost : ℕ) (moved moves : Bool) (now new : Collector) (all : List Deed) (start log after : Log) → Leads has start all log (deeds_of_steps (left - spent) (left - spent) moved now)
      → is_idle now.phase ≡ false → cost ≡ step_cost now moved → cost ≤ left - spent → moves ≡ (moved || is_moving now) → new ≡ collector_step now → Told has log (step_deeds now moved) after
      → Leads has start all after (deeds_of_steps (left - (spent + cost)) (left - (spent + cost)) moves new)
  leads-step left spent cost moved moves now new all start log after so_far runs price fits moving is told =
      leads-then left spent cost moved moves now new all start log after so_far (leads-one (left - spent) cost moved moves now new log after runs price fits moving is told)

  -- the start and all steps are the quantum
  pub quantum-is_told : (old begun : CycleState) (most : ℕ) (before now after : Log) → most ≡ old.config.quantum → begun ≡ state_with_collector old (quantum_start old.config old.collector) → Told has before (start_deeds old.config old.collector) now
      → Told has now (deeds_of_steps most most false begun.collector) after → Told has before (quantum_deeds old.config old.collector) after
  quantum-is_told old begun most before now after limit start first rest =
      subst (λ deeds. Told has before deeds after) (sym (quantum-deeds old begun most limit start)) (told-then has before now after (start_deeds old.config old.collector) (deeds_of_steps most most false begun.collector) first rest)

-- the phase after a step of defragmentation, whatever the slots hold
pub defrag-phase : (c : Collector) (slots : List (Option ℕ)) → c.phase ≡ Defrag → (collector_step c).phase ≡ (collector_step (with_slots c slots)).phase
defrag-phase c slots phase = of c phase ∙ sym (of (with_slots c slots) phase)
  where
    of : (x : Collector) → x.phase ≡ Defrag → (collector_step x).phase ≡ (if is_past (moved x.table x.cursor (next_move x.table x.cursor)) (next_place x.cursor (flagged_page x.table x.cursor)) then Idle else Defrag)
    of x is =
        let r = shifted x (moved x.table x.cursor (next_move x.table x.cursor)) (slots_moved x.table x.cursor x.slots (next_move x.table x.cursor)) (next_place x.cursor (flagged_page x.table x.cursor)) in
        ap (λ y. y.phase) (defrag-is x is ∙ ap (λ s. defrag_next s (is_past s.table s.cursor)) (defrag-parts x is)) ∙ same r is (is_past r.table r.cursor)
      where
        same : (s : Collector) → s.phase ≡ Defrag → (past : Bool) → (defrag_next s past).phase ≡ (if past then Idle else Defrag)
        same s at true = refl
        same s at false = at
