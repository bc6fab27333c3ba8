-- Which events start a cycle: what they leave of its number, and of whether one is asked for.
use Rattle.std.proofs.Common.{◌≡◌, ℕ, zero, suc, ◌+◌, ◌-◌, ◌==◌, nat_lt, nat_le, inl, inr, Bool, true, false, not, ◌&&◌, ◌||◌, if◌then◌else◌, Option, Some, None, List, [], ◌∷◌, refl, sym, ap, ◌∙◌, subst, arith, eq-eqb}
use Rattle.std.proofs.lemmas.Bool.{cases_Bool, eqb-true}
use Rattle.mh_model.specs.{declared.command.Event.Event, declared.config.Config.Config, declared.cycle.Phase.Phase}
use Rattle.mh_model.specs.{declared.cycle.Phase.TheVariants.{Idle, Roots, Mark, Sweep, Defrag}, World.says}
use Rattle.mh_model.specs.Collector.{Collector, Move, Spending, next_move, with_move, with_phase, after_mark, is_past, cycle_end, cycle_start, step_in, phase_after, collector_step, step_cost, is_moving, is_idle, is_start_due, quantum_start, steps, quantum}
use Rattle.mh_model.specs.Limits.{root_slots}
use Rattle.mh_model.specs.Machine.{Machine, quantum_run, command_step, control_step, half_step, event_step}
use Rattle.mh_model.specs.{Pages.free_pages, Snapshot.has_quantum, declared.command.Control.Control}
use Rattle.mh_model.specs.declared.reply.Reply.{Reply}
use Rattle.mh_laws.proofs.{commands.LeftUnchanged.mutator_step-course, costs.Quanta.{steps-stop, steps-go}}
use Rattle.mh_laws.proofs.{costs.QuantumStarts.begins, rooms.QuietEvents.{quantum-event, quiet-event}}
use Rattle.mh_tell_laws.specs.Cycles.{starts_cycle}
use Rattle.mh_tell_cycles.specs.Tallies.{asked_after}

-- a collector of the same cycle, for which a cycle is asked as before
record IsSameCycle (old new : Collector) : Type 0 where
  pub cycle : new.cycle ≡ old.cycle
  pub asked : new.is_asked ≡ old.is_asked

same : (collector : Collector) → IsSameCycle collector collector
same collector = record { cycle = refl; asked = refl }

then-same : (first second third : Collector) → IsSameCycle first second → IsSameCycle second third → IsSameCycle first third
then-same first second third one two = record { cycle = two.cycle ∙ one.cycle; asked = two.asked ∙ one.asked }

if-same : (test : Bool) (collector other : Collector) → IsSameCycle collector other → IsSameCycle collector (if test then other else collector)
if-same true collector other is = is
if-same false collector other is = same collector

after_mark-same : (collector : Collector) (grey : List ℕ) → IsSameCycle collector (after_mark collector grey)
after_mark-same collector [] = record { cycle = refl; asked = refl }
after_mark-same collector (place ∷ grey) = record { cycle = refl; asked = refl }

phase_after-same : (phase : Phase) (collector : Collector) → IsSameCycle collector (phase_after phase collector)
phase_after-same Idle collector = same collector
phase_after-same Roots collector = if-same (collector.cursor == root_slots) collector (after_mark collector collector.grey) (after_mark-same collector collector.grey)
phase_after-same Mark collector = after_mark-same collector collector.grey
phase_after-same Sweep collector = if-same (is_past collector.table collector.cursor) collector (with_phase collector Defrag 0) (record { cycle = refl; asked = refl })
phase_after-same Defrag collector = if-same (is_past collector.table collector.cursor) collector (cycle_end collector) (record { cycle = refl; asked = refl })

move-same : (collector : Collector) (move : Option Move) → IsSameCycle collector (with_move collector move)
move-same collector None = same collector
move-same collector (Some move) = record { cycle = refl; asked = refl }

step_in-same : (phase : Phase) (collector : Collector) → IsSameCycle collector (step_in phase collector)
step_in-same Idle collector = same collector
step_in-same Defrag collector = let moved = move-same collector (next_move collector.table collector.cursor) in record { cycle = moved.cycle; asked = moved.asked }
step_in-same other collector = record { cycle = refl; asked = refl }

step-same : (collector : Collector) → IsSameCycle collector (collector_step collector)
unfolding collector_step
step-same collector = then-same collector (step_in collector.phase collector) (collector_step collector) (step_in-same collector.phase collector) (phase_after-same collector.phase (step_in collector.phase collector))

steps-same : (more left : ℕ) (has_moved : Bool) (collector : Collector) → IsSameCycle collector (steps more left has_moved collector).collector
unfolding steps
steps-same zero left has_moved collector = same collector
steps-same (suc more) left has_moved collector = elim (cases_Bool (is_idle collector.phase || nat_lt left (step_cost collector has_moved))) [
  | inl stops ↦ subst (λ (s : Spending). IsSameCycle collector s.collector) (sym (steps-stop more left has_moved collector stops)) (same collector)
  | inr goes ↦
      let after : Collector = collector_step collector in
      let left_after : ℕ = left - step_cost collector has_moved in
      let moved_after : Bool = has_moved || is_moving collector in
      subst (λ (s : Spending). IsSameCycle collector s.collector) (sym (steps-go more left has_moved collector goes))
      (then-same collector after (steps more left_after moved_after after).collector (step-same collector) (steps-same more left_after moved_after after))
]

-- whether a cycle has started
record HasStarted (starts : Bool) (old new : Collector) : Type 0 where
  pub cycle : new.cycle ≡ (if starts then old.cycle + 1 else old.cycle)
  pub asked : new.is_asked ≡ (if starts then false else old.is_asked)

started-by : (config : Config) (begun old : Collector) (starts : Bool) → HasStarted starts old begun → HasStarted starts old (steps config.quantum config.quantum false begun).collector
started-by config begun old starts is = let kept = steps-same config.quantum config.quantum false begun in record { cycle = kept.cycle ∙ is.cycle; asked = kept.asked ∙ is.asked }

quantum-started : (config : Config) (collector : Collector) → HasStarted (is_start_due config collector) collector (quantum config collector).collector
unfolding quantum
quantum-started config collector = started-by config (quantum_start config collector) collector (is_start_due config collector) (elim (begins config collector).case [
  | inl starts ↦ subst (λ c. HasStarted (is_start_due config collector) collector c) (sym starts.2) (subst (λ b. HasStarted b collector (record (cycle_start collector) { quanta = 1 })) (sym starts.0) (record { cycle = refl; asked = refl }))
  | inr other ↦ elim other [
    | inl runs ↦ subst (λ c. HasStarted (is_start_due config collector) collector c) (sym runs.1) (subst (λ b. HasStarted b collector (record collector { quanta = collector.quanta + 1 })) (sym (not_due runs.0)) (record { cycle = refl; asked = refl }))
    | inr rests ↦ subst (λ c. HasStarted (is_start_due config collector) collector c) (sym rests.2) (subst (λ b. HasStarted b collector collector) (sym rests.0) (record { cycle = refl; asked = refl }))
  ]
])
  where
    not_due : is_idle collector.phase ≡ false → is_start_due config collector ≡ false
    not_due runs = rw runs refl

-- Events -----------------------------------------------------------------------------------------

-- what a half step leaves of the cycle
pub record KeepsCycleOf (old new : Machine) : Type 0 where
  pub phase : new.heap.collector.phase ≡ old.heap.collector.phase
  pub cycle : new.heap.collector.cycle ≡ old.heap.collector.cycle
  pub asked : new.heap.collector.is_asked ≡ old.heap.collector.is_asked

pub half-kept : (machine : Machine) (event : Event) → KeepsCycleOf machine (half_step machine event)
unfolding command_step
half-kept machine (Event.Session who command) = let course = mutator_step-course machine.heap who command in record { phase = course.phase; cycle = course.cycle; asked = course.is_asked }
half-kept machine (Event.Control control) = record { phase = refl; cycle = refl; asked = refl }

-- a quantum of an event starts a cycle if the event does
ran-started : (machine : Machine) (event : Event) → has_quantum machine event ≡ true → HasStarted (starts_cycle machine event) machine.heap.collector (event_step machine event).state.heap.collector
unfolding quantum_run
ran-started machine event runs =
    let half : Machine = half_step machine event in
    let kept = half-kept machine event in
    let due : starts_cycle machine event ≡ is_start_due half.heap.config half.heap.collector = ap (λ b. b && is_start_due half.heap.config half.heap.collector) runs in
    let ran = quantum-started half.heap.config half.heap.collector in
    subst (λ b. HasStarted b machine.heap.collector (event_step machine event).state.heap.collector) (sym due)
    (subst (λ (m : Machine). HasStarted (is_start_due half.heap.config half.heap.collector) machine.heap.collector m.heap.collector) (sym (quantum-event machine event runs)) (record {
      cycle = ran.cycle ∙ ap (λ n. if is_start_due half.heap.config half.heap.collector then n + 1 else n) kept.cycle;
      asked = ran.asked ∙ ap (λ b. if is_start_due half.heap.config half.heap.collector then false else b) kept.asked;
    }))

none-starts : (machine : Machine) (event : Event) → has_quantum machine event ≡ false → starts_cycle machine event ≡ false
none-starts machine event none = ap (λ b. b && is_start_due (half_step machine event).heap.config (half_step machine event).heap.collector) none

-- An event raises the number of the cycle if it starts one
pub event-cycle : (machine : Machine) (event : Event) → (event_step machine event).state.heap.collector.cycle ≡ (if starts_cycle machine event then machine.heap.collector.cycle + 1 else machine.heap.collector.cycle)
event-cycle machine event = elim (cases_Bool (has_quantum machine event)) [
  | inl runs ↦ (ran-started machine event runs).cycle
  | inr none ↦ (quiet-event machine event none).cycle ∙ (half-kept machine event).cycle ∙ ap (λ b. if b then machine.heap.collector.cycle + 1 else machine.heap.collector.cycle) (sym (none-starts machine event none))
]

-- and so the numbers before and after it tell
pub starts-told : (machine : Machine) (event : Event) → not ((event_step machine event).state.heap.collector.cycle == machine.heap.collector.cycle) ≡ starts_cycle machine event
starts-told machine event = go (starts_cycle machine event) (event-cycle machine event)
  where
    cycle : ℕ
    cycle = machine.heap.collector.cycle

    go : (starts : Bool) → (event_step machine event).state.heap.collector.cycle ≡ (if starts then cycle + 1 else cycle) → not ((event_step machine event).state.heap.collector.cycle == cycle) ≡ starts
    go true e = ap (λ n. not (n == cycle)) e ∙ ap not (differ ((cycle + 1) == cycle) refl)
      where
        differ : (b : Bool) → ((cycle + 1) == cycle) ≡ b → b ≡ false
        differ true is = absurd (omega (arith, eqb-true (cycle + 1) cycle is))
        differ false is = refl
    go false e = ap not (eq-eqb (event_step machine event).state.heap.collector.cycle cycle e)

asked-is : (was starts : Bool) → (if starts then false else was) ≡ was && not starts
asked-is true true = refl
asked-is true false = refl
asked-is false true = refl
asked-is false false = refl

-- Whether a cycle is asked for after an event
pub event-asked : (machine : Machine) (event : Event) → (event_step machine event).state.heap.collector.is_asked ≡ asked_after machine.heap.collector.is_asked event (starts_cycle machine event)
unfolding event_step control_step
event-asked machine (Event.Session who command) = elim (cases_Bool (has_quantum machine e)) [
  | inl runs ↦ (ran-started machine e runs).asked ∙ asked-is machine.heap.collector.is_asked (starts_cycle machine e)
  | inr none ↦
      ap (λ due. (if due then (quantum_run (half_step machine e)).state else half_step machine e).heap.collector.is_asked) none ∙ (half-kept machine e).asked
      ∙ asked-is machine.heap.collector.is_asked false ∙ ap (λ b. machine.heap.collector.is_asked && not b) (sym (none-starts machine e none))
]
  where
    e : Event
    e = Event.Session who command
event-asked machine (Event.Control Control.Quantum) = elim (cases_Bool (machine.heap.config.every == 0)) [
  | inl runs ↦ (ran-started machine e runs).asked ∙ asked-is machine.heap.collector.is_asked (starts_cycle machine e)
  | inr none ↦
      ap (λ asked. (if asked then quantum_run machine else says (Reply.Spent 0 machine.heap.collector.phase) machine).state.heap.collector.is_asked) none
      ∙ asked-is machine.heap.collector.is_asked false ∙ ap (λ b. machine.heap.collector.is_asked && not b) (sym (none-starts machine e none))
]
  where
    e : Event
    e = Event.Control Control.Quantum
event-asked machine (Event.Control Control.Start) = refl
event-asked machine (Event.Control asked) = asked-is machine.heap.collector.is_asked false

-- No event starts a cycle while one runs
pub running-starts_none : (machine : Machine) (event : Event) → is_idle machine.heap.collector.phase ≡ false → starts_cycle machine event ≡ false
running-starts_none machine event runs =
    let half : Machine = half_step machine event in
    let still : is_idle half.heap.collector.phase ≡ false = ap is_idle (half-kept machine event).phase ∙ runs in
    ap (λ b. has_quantum machine event && (b && (half.heap.collector.is_asked || nat_le (free_pages half.heap.collector.table) half.heap.config.trigger))) still ∙ none (has_quantum machine event)
  where
    none : (b : Bool) → b && false ≡ false
    none true = refl
    none false = refl
