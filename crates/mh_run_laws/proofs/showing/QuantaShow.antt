-- Quanta: a view that agrees with a world agrees with it after them.
use Rattle.std.proofs.Common.{◌≡◌, ℕ, zero, suc, ◌+◌, ◌-◌, nat_lt, Bool, false, ◌||◌, inl, inr, refl, sym, ap, ◌∙◌, subst}
use Rattle.std.proofs.lemmas.Bool.{false≢true, cases_Bool, or_parts}
use Rattle.mh_model.specs.{declared.cycle.Phase.TheVariants.Idle, World.World, Paths.Agrees}
use Rattle.mh_model.specs.Collector.{Collector, collector_step, step_cost, is_moving, is_idle, cycle_start, quantum_start, steps, quantum}
use Rattle.mh_model.specs.{Mutator.HeapState, View.{in_sweep, heap_view}, Invariant.{KeepsSnapshot, HeapKeeps}}
use Rattle.mh_laws.proofs.costs.Quanta.{steps-stop, steps-go}
use Rattle.mh_laws.proofs.snapshots.CycleSteps.{continues-collector_step, snapshot-counted}
use Rattle.mh_laws.proofs.{snapshots.CycleStarts.snapshot-started, showing.SamePlainBlocks.plain-shown}
use Rattle.mh_laws.proofs.costs.QuantumStarts.{quantum-rests, begins}
use Rattle.mh_run_laws.proofs.showing.{MarkingShows.same-view, StepsShow.agrees-collector_step}

-- Steps of a quantum
agrees-steps : (snapshot world : World) (more left : ℕ) (has_moved : Bool) (heap : HeapState) → HeapKeeps snapshot heap → Agrees (heap_view heap) world → Agrees (heap_view (record heap { collector = (steps more left has_moved heap.collector).collector })) world
unfolding steps
agrees-steps snapshot world zero left has_moved heap h agrees = agrees
agrees-steps snapshot world (suc more) left has_moved heap h agrees = elim (cases_Bool (is_idle heap.collector.phase || nat_lt left (step_cost heap.collector has_moved))) [
  | inl stops ↦ subst (λ s. Agrees (heap_view (record heap { collector = s.collector })) world) (sym (steps-stop more left has_moved heap.collector stops)) agrees
  | inr goes ↦
      let (runs, fits) = or_parts (is_idle heap.collector.phase) (nat_lt left (step_cost heap.collector has_moved)) goes in
      subst
      (λ s. Agrees (heap_view (record heap { collector = s.collector })) world)
      (sym (steps-go more left has_moved heap.collector goes))
      (agrees-steps
      snapshot
      world
      more
      (left - step_cost heap.collector has_moved)
      (has_moved || is_moving heap.collector)
      (record heap { collector = collector_step heap.collector })
      (continues-collector_step snapshot heap.next_birth heap.collector runs h).keeps
      (agrees-collector_step snapshot world heap runs h agrees))
]

-- how many quanta a cycle has had, and whether one is asked for, isn't shown
counted-view : (heap : HeapState) (quanta : ℕ) → heap_view (record heap { collector = record (heap.collector) { quanta = quanta } }) ≡ heap_view heap
unfolding heap_view
counted-view heap quanta = refl

-- a cycle that starts shows the same
started-view : (heap : HeapState) → heap.collector.phase ≡ Idle → KeepsSnapshot (heap_view heap) heap.next_birth (cycle_start heap.collector) → (snapshot : World) → HeapKeeps snapshot heap → heap_view (record heap { collector = cycle_start heap.collector }) ≡ heap_view heap
started-view heap idle k snapshot h =
    same-view
    heap
    (cycle_start heap.collector)
    (plain-shown
    heap.next_birth
    heap.collector
    (cycle_start heap.collector)
    h.sound
    k.sound
    (λ p x plain i r e y plain'. plain'.there)
    (λ p x plain. (p, record { there = plain.there; original = plain.original; surviving = λ s. absurd (false≢true s) }))
    (λ p x plain. (p, record { there = plain.there; original = plain.original; surviving = λ s. absurd (false≢true (ap in_sweep (sym idle) ∙ s)) })))
    refl

-- a quantum that begins with a collector that shows the same
agrees-from : (world : World) (heap : HeapState) (d : Collector) → quantum_start heap.config heap.collector ≡ d → (snapshot : World) → KeepsSnapshot snapshot heap.next_birth d → Agrees (heap_view (record heap { collector = d })) world
    → Agrees (heap_view (record heap { collector = (quantum heap.config heap.collector).collector })) world
unfolding quantum
agrees-from world heap d is snapshot h agrees = subst (λ z. Agrees (heap_view (record heap { collector = (steps heap.config.quantum heap.config.quantum false z).collector })) world) (sym is) (agrees-steps snapshot world heap.config.quantum heap.config.quantum false (record heap { collector = d }) h agrees)

-- A quantum
pub agrees-quantum : (snapshot world : World) (heap : HeapState) → HeapKeeps snapshot heap → Agrees (heap_view heap) world → Agrees (heap_view (record heap { collector = (quantum heap.config heap.collector).collector })) world
agrees-quantum snapshot world heap h agrees = elim (begins heap.config heap.collector).case [
  | inl starts ↦
      let k : KeepsSnapshot (heap_view heap) heap.next_birth (cycle_start heap.collector) = snapshot-started heap (ap in_sweep starts.1) h.sound in
      agrees-from
      world
      heap
      (record (cycle_start heap.collector) { quanta = 1 })
      starts.2
      (heap_view heap)
      (snapshot-counted (heap_view heap) heap.next_birth (cycle_start heap.collector) false 1 k)
      (subst (λ v. Agrees v world) (sym (counted-view (record heap { collector = cycle_start heap.collector }) 1 ∙ started-view heap starts.1 k snapshot h)) agrees)
  | inr other ↦ elim other [
    | inl runs ↦
        agrees-from
        world
        heap
        (record (heap.collector) { quanta = heap.collector.quanta + 1 })
        runs.1
        snapshot
        (snapshot-counted snapshot heap.next_birth heap.collector heap.collector.is_asked (heap.collector.quanta + 1) h)
        (subst (λ v. Agrees v world) (sym (counted-view heap (heap.collector.quanta + 1))) agrees)
    | inr rests ↦ subst (λ d. Agrees (heap_view (record heap { collector = d })) world) (sym (quantum-rests heap.config heap.collector (ap is_idle rests.1) rests.0)) agrees
  ]
]
