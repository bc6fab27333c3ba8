-- Steps of the collector and quanta: each keeps the snapshot of a running cycle, and the last of them leaves what the cycle keeps.
-- The invariant is `KeepsSnapshot` of the model: `IsSound` of the state alone, and `KeepsCycle` of the cycle with a world taken as its snapshot.
use Rattle.std.proofs.Common.{◌≡◌, ℕ, zero, suc, ◌+◌, ◌-◌, ◌==◌, nat_lt, if◌then◌else◌, Bool, true, false, ◌||◌, inl, inr, List, refl, sym, ap, ◌∙◌, subst, arith, eqb-true}
use Rattle.std.proofs.{lemmas.Bool.{false≢true, cases_Bool, or_parts}, lemmas.Option.none-some, lemmas.List.get_or_past}
use Rattle.mh_model.specs.{declared.config.Config.Config, declared.cycle.Phase.Phase}
use Rattle.mh_model.specs.{declared.cycle.Phase.TheVariants.{Idle, Roots, Mark, Sweep, Defrag}, World.World}
use Rattle.mh_model.specs.Collector.{Collector, mark_step, marking_of, with_marking, with_phase, roots_step, sweep_step, defrag_step, after_mark, is_past, cycle_end, phase_after, step_in, collector_step, step_cost, is_moving, is_idle, quantum_start, steps, quantum}
use Rattle.mh_model.specs.{Mutator.{in_roots_or_mark, in_roots}, Invariant.{IsFromRoot, KeepsSnapshot, Continues}}
use Rattle.mh_model.specs.Limits.{root_slots}
use Rattle.mh_laws.proofs.{costs.Quanta.{steps-stop, steps-go}, marking.SameTable.snapshot-turned}
use Rattle.mh_laws.proofs.marking.MarkSteps.{snapshot-roots_step, snapshot-mark_step}
use Rattle.mh_laws.proofs.sweeping.SweepSteps.{snapshot-after_mark, snapshot-sweep_step, snapshot-after_sweep}
use Rattle.mh_laws.proofs.moving.MoveSteps.{snapshot-defrag_step, snapshot-cycle_end, finished-cycle_end}
use Rattle.mh_laws.proofs.costs.QuantumStarts.{begins}

module _ (snapshot : World) (n : ℕ) where
  after_roots : (c : Collector) → c.phase ≡ Roots → KeepsSnapshot snapshot n c → Continues snapshot n (phase_after Roots c)
  after_roots c phase h = go (c.cursor == root_slots) refl
    where
      no_root : c.cursor ≡ root_slots → (q : ℕ) → IsFromRoot c q → ⊥
      no_root last q from = grind (arith, none-some, get_or_past)

      running : (grey : List ℕ) → KeepsSnapshot snapshot n (after_mark c grey) → Continues snapshot n (after_mark c grey)
      running grey k = grind (arith, false≢true)

      go : (b : Bool) → (c.cursor == root_slots) ≡ b → Continues snapshot n (if b then after_mark c c.grey else c)
      go true e = running c.grey (snapshot-after_mark snapshot n c (ap in_roots_or_mark phase) (no_root (eqb-true c.cursor root_slots e)) h)
      go false e = record { keeps = h; ends = λ i. absurd (false≢true (ap is_idle (sym phase) ∙ i)) }

  after_marking : (c : Collector) → c.phase ≡ Mark → KeepsSnapshot snapshot n c → Continues snapshot n (phase_after Mark c)
  after_marking c phase h = running c.grey (snapshot-after_mark snapshot n c (ap in_roots_or_mark phase) (λ q from. false≢true (ap in_roots (sym phase ∙ from.0))) h)
    where
      running : (grey : List ℕ) → KeepsSnapshot snapshot n (after_mark c grey) → Continues snapshot n (after_mark c grey)
      running grey k = grind (arith, false≢true)

  after_sweep : (c : Collector) → c.phase ≡ Sweep → KeepsSnapshot snapshot n c → Continues snapshot n (phase_after Sweep c)
  after_sweep c phase h = go (is_past c.table c.cursor) refl
    where
      go : (b : Bool) → is_past c.table c.cursor ≡ b → Continues snapshot n (if b then with_phase c Defrag 0 else c)
      go true e = record { keeps = snapshot-after_sweep snapshot n c phase e h; ends = λ i. absurd (false≢true i) }
      go false e = record { keeps = h; ends = λ i. absurd (false≢true (ap is_idle (sym phase) ∙ i)) }

  after_defrag : (c : Collector) → c.phase ≡ Defrag → KeepsSnapshot snapshot n c → Continues snapshot n (phase_after Defrag c)
  after_defrag c phase h = go (is_past c.table c.cursor)
    where
      go : (b : Bool) → Continues snapshot n (if b then cycle_end c else c)
      go true = record { keeps = snapshot-cycle_end snapshot n c phase h; ends = λ i. finished-cycle_end snapshot n c phase h }
      go false = record { keeps = h; ends = λ i. absurd (false≢true (ap is_idle (sym phase) ∙ i)) }

  -- A step of the collector
  pub continues-collector_step : (c : Collector) → is_idle c.phase ≡ false → KeepsSnapshot snapshot n c → Continues snapshot n (collector_step c)
  unfolding collector_step
  continues-collector_step c runs h = go c.phase refl runs
    where
      go : (phase : Phase) → c.phase ≡ phase → is_idle phase ≡ false → Continues snapshot n (phase_after phase (step_in phase c))
      go Idle is r = absurd (false≢true (sym r))
      go Roots is r = after_roots (roots_step c) refl (snapshot-roots_step snapshot n c is h)
      go Mark is r = after_marking (with_marking c (mark_step (marking_of c))) is (snapshot-mark_step snapshot n c (ap in_roots_or_mark is) h)
      go Sweep is r = after_sweep (sweep_step c) is (snapshot-sweep_step snapshot n c is h)
      go Defrag is r = after_defrag (defrag_step c) refl (snapshot-defrag_step snapshot n c is h)

  -- Steps of a quantum
  pub continues-steps : (more left : ℕ) (has_moved : Bool) (c : Collector) → Continues snapshot n c → Continues snapshot n (steps more left has_moved c).collector
  unfolding steps
  continues-steps zero left has_moved c h = h
  continues-steps (suc more) left has_moved c h = elim (cases_Bool (is_idle c.phase || nat_lt left (step_cost c has_moved))) [
    | inl stops ↦ subst (λ s. Continues snapshot n s.collector) (sym (steps-stop more left has_moved c stops)) h
    | inr goes ↦
        let (runs, fits) = or_parts (is_idle c.phase) (nat_lt left (step_cost c has_moved)) goes in
        subst (λ s. Continues snapshot n s.collector) (sym (steps-go more left has_moved c goes)) (continues-steps more (left - step_cost c has_moved) (has_moved || is_moving c) (collector_step c) (continues-collector_step c runs h.keeps))
  ]

  -- a cycle that runs has had one quantum more, or is asked for
  pub snapshot-counted : (c : Collector) (asked : Bool) (quanta : ℕ) → KeepsSnapshot snapshot n c → KeepsSnapshot snapshot n (record c { is_asked = asked; quanta = quanta })
  snapshot-counted c asked quanta h = snapshot-turned c c.slots c.phase c.cursor c.grey asked quanta (grind (arith, false≢true)) snapshot n (record {
    runs = λ r. r;
    marks = λ m. m;
    from_root = λ t q x e from. inr from;
    from_grey = λ t q x e from. inr from;
    slots = h.cycle.slots;
  }) h

module _ (config : Config) (snapshot : World) (n : ℕ) where
  -- A quantum in a running cycle
  pub continues-quantum : (c : Collector) → is_idle c.phase ≡ false → KeepsSnapshot snapshot n c → Continues snapshot n (quantum config c).collector
  unfolding quantum
  continues-quantum c runs h = continues-steps snapshot n config.quantum config.quantum false (quantum_start config c) (elim (begins config c).case [
    | inl starts ↦ absurd (false≢true (sym runs ∙ ap is_idle starts.1))
    | inr other ↦ elim other [
      | inl counted ↦ subst (Continues snapshot n) (sym counted.1) (record { keeps = snapshot-counted snapshot n c c.is_asked (c.quanta + 1) h; ends = λ i. absurd (false≢true (sym runs ∙ i)) })
      | inr rests ↦ absurd (false≢true (sym runs ∙ ap is_idle rests.1))
    ]
  ])
